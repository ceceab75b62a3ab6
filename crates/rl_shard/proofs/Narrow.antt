-- What is visited of a range of time and of a shorter one within it, and which windows have the same lines.
use Rattle.std.proofs.Common.{◌≡◌, ◌≤◌, ◌<◌, leb, ltb, ℕ, ◌+◌, ◌-◌, ◌*◌, Bool, true, false, cond, ◌&&◌, ◌⊎◌, List, [], ◌∷◌, ◌++◌, map, None, Some, refl, sym, ap, ◌∙◌, arith, ⊎_elim, inl, inr}
use Rattle.std.specs.Option.{MatchOption}
use Rattle.std.specs.Prelude.{MatchBool}
use Rattle.std.specs.List.{AllZip, filter, flat_map}
use Rattle.std.proofs.lemmas.Bool.{true≢false, le-leb, lt-leb, leb-true, ltb-true, ltb-false}
use Rattle.std.proofs.lemmas.List.Elements.{All-weaker, filter-append}
use Rattle.std.proofs.lemmas.List.Concat.{flat_map-cons}
use Rattle.rl_labels.specs.LabelSet.{LabelSet}
use Rattle.rl_labels.specs.Selects.{selects}
use Rattle.rl_labels.specs.declared.entry.Entry.{Entry}
use Rattle.rl_labels.specs.declared.matcher.Matcher.{Matcher}
use Rattle.rl_chunks.specs.declared.chunk.Chunk.{Chunk}
use Rattle.rl_chunks.specs.declared.line.Line.{Line}
use Rattle.rl_aggregate.specs.InRange.{second}
use Rattle.rl_parts.specs.Reading.{IsApart, IsPiece, IsReadAs, lines_in_range, visited, visited_in_range}
use Rattle.rl_parts.specs.StreamParts.{PartView, StreamView}
use Rattle.rl_streams.specs.Asking.{AreOfParts, AreOfRow}
use Rattle.rl_streams.specs.StreamRows.{Row}
use Rattle.rl_shard.specs.Collecting.{IsStartOf}

pub and_true : (x y : Bool) → (x && y) ≡ true → (x ≡ true) × (y ≡ true)
and_true true y is = (refl, is)
and_true false y is = absurd (true≢false (sym is))

pub both_true : (x y : Bool) → x ≡ true → y ≡ true → (x && y) ≡ true
both_true x y p q = (λ i. p i && q i)

pub filter_map : {A B : Type 0} (p : B → Bool) (f : A → B) (xs : List A) → filter p (map f xs) ≡ map f (filter (λ x. p (f x)) xs)
filter_map p f [] = refl
filter_map p f (x ∷ xs) = elim (p (f x)) as (λ b. cond b (f x ∷ filter p (map f xs)) (filter p (map f xs)) ≡ map f (cond b (x ∷ filter (λ x. p (f x)) xs) (filter (λ x. p (f x)) xs))) [
  | true ↦ ap (λ rest. f x ∷ rest) (filter_map p f xs)
  | false ↦ filter_map p f xs
]

pub filter_flat : {A : Type 0} (p : A → Bool) (xss : List (List A)) → filter p (flat_map (λ xs. xs) xss) ≡ flat_map (λ xs. xs) (map (filter p) xss)
filter_flat p [] = refl
filter_flat p (xs ∷ xss) =
    ap (filter p) (flat_map-cons (λ xs. xs) xs xss)
    ∙ filter-append p xs (flat_map (λ xs. xs) xss)
    ∙ ap (λ rest. filter p xs ++ rest) (filter_flat p xss)
    ∙ sym (flat_map-cons (λ xs. xs) (filter p xs) (map (filter p) xss))

-- the line is of the range
abbrev pub is_between : (low high : ℕ) → LabelSet × Line → Bool
is_between low high line = leb low line.1.timestamp && leb line.1.timestamp high

module _ (from to low high : ℕ) (above : from ≤ low) (below : high ≤ to) where
  inner : (n : ℕ) → (leb low n && leb n high) ≡ true → (leb from n && leb n to) ≡ true
  inner n is =
      let parts = and_true (leb low n) (leb n high) is in
      both_true (leb from n) (leb n to) (le-leb from n (omega (arith, above, leb-true low n parts.0))) (le-leb n to (omega (arith, below, leb-true n high parts.1)))

  narrow_map : {A : Type 0} (f : A → LabelSet × Line) (xs : List A) → filter (is_between low high) (map f (filter (λ x. is_between from to (f x)) xs)) ≡ map f (filter (λ x. is_between low high (f x)) xs)
  narrow_map f [] = refl
  narrow_map f (x ∷ xs) =
      let wide = filter (λ x. is_between from to (f x)) xs in
      let narrow = filter (λ x. is_between low high (f x)) xs in
      let kept = filter (is_between low high) (map f wide) in
      elim (is_between from to (f x)) as (λ out. is_between from to (f x) ≡ out → filter (is_between low high) (map f (cond out (x ∷ wide) wide)) ≡ map f (cond (is_between low high (f x)) (x ∷ narrow) narrow)) [
        | true ↦ λ _. elim (is_between low high (f x)) as (λ b. cond b (f x ∷ kept) kept ≡ map f (cond b (x ∷ narrow) narrow)) [
          | true ↦ ap (λ rest. f x ∷ rest) (narrow_map f xs)
          | false ↦ narrow_map f xs
        ]
        | false ↦ λ out. elim (is_between low high (f x)) as (λ b. is_between low high (f x) ≡ b → kept ≡ map f (cond b (x ∷ narrow) narrow)) [
          | true ↦ λ is. absurd (true≢false (sym (inner (f x).1.timestamp is) ∙ out))
          | false ↦ λ _. narrow_map f xs
        ] refl
      ] refl

  narrow_apart : (entries : List Entry) → IsApart from to entries → IsApart low high entries
  narrow_apart entries apart = ⊎_elim
      (λ before. inl (All-weaker (λ (e : Entry). e.timestamp < from) (λ (e : Entry). e.timestamp < low) (λ e is. omega (arith, is, above)) entries before))
      (λ following. inr (All-weaker (λ (e : Entry). to < e.timestamp) (λ (e : Entry). high < e.timestamp) (λ e is. omega (arith, is, below)) entries following))
      apart

  narrow_piece : (labels : LabelSet) (part : PartView) (piece : List (LabelSet × Line)) → IsPiece labels from to part piece → IsPiece labels low high part (filter (is_between low high) piece)
  narrow_piece labels part piece = elim part.note as (λ note. MatchOption note (piece ≡ visited_in_range from to part.entries) (λ note. (IsApart from to part.entries × (piece ≡ [])) ⊎ ((chunk : Chunk) × IsReadAs note.digest chunk × (piece ≡ lines_in_range labels from to chunk.lines)))
      → MatchOption note (filter (is_between low high) piece ≡ visited_in_range low high part.entries) (λ note. (IsApart low high part.entries × (filter (is_between low high) piece ≡ [])) ⊎ ((chunk : Chunk) × IsReadAs note.digest chunk × (filter (is_between low high) piece ≡ lines_in_range labels low high chunk.lines)))) [
        | None ↦ λ is. ap (filter (is_between low high)) is ∙ narrow_map visited part.entries
        | Some note ↦ ⊎_elim
            (λ apart. inl (narrow_apart part.entries apart.0, ap (filter (is_between low high)) apart.1))
            (λ chunk. inr (chunk.0, chunk.1, (ap (filter (is_between low high)) chunk.2 ∙ narrow_map (λ (line : Line). (labels, line)) chunk.0.lines)))
      ]

  narrow_pieces : (labels : LabelSet) (parts : List PartView) (pieces : List (List (LabelSet × Line))) → AllZip (IsPiece labels from to) parts pieces → AllZip (IsPiece labels low high) parts (map (filter (is_between low high)) pieces)
  narrow_pieces labels [] [] all = all
  narrow_pieces labels [] (piece ∷ pieces) all = absurd all
  narrow_pieces labels (part ∷ parts) [] all = absurd all
  narrow_pieces labels (part ∷ parts) (piece ∷ pieces) all = (narrow_piece labels part piece all.0, narrow_pieces labels parts pieces all.1)

  narrow_parts : (stream : StreamView) (lines : List (LabelSet × Line)) → AreOfParts from to stream lines → AreOfParts low high stream (filter (is_between low high) lines)
  narrow_parts stream lines are = record {
    pieces = map (filter (is_between low high)) are.pieces;
    each = narrow_pieces stream.labels stream.parts are.pieces are.each;
    all =
        ap (filter (is_between low high)) are.all
        ∙ filter-append (is_between low high) (flat_map (λ piece. piece) are.pieces) (visited_in_range from to stream.head)
        ∙ (λ i. filter_flat (is_between low high) are.pieces i ++ narrow_map visited stream.head i);
  }

  narrow_row : (selector : List Matcher) (row : Row) (lines : List (LabelSet × Line)) → AreOfRow selector from to row lines → AreOfRow selector low high row (filter (is_between low high) lines)
  narrow_row selector row lines = elim (selects selector row.0) as (λ b. MatchBool b (AreOfParts from to row.1 lines) (lines ≡ []) → MatchBool b (AreOfParts low high row.1 (filter (is_between low high) lines)) (filter (is_between low high) lines ≡ [])) [
    | true ↦ narrow_parts row.1 lines
    | false ↦ λ none. ap (filter (is_between low high)) none
  ]

  -- what was visited of a range, and what of it is of a shorter one
  pub narrow_rows : (selector : List Matcher) (rows : List Row) (lines : List (List (LabelSet × Line))) → AllZip (AreOfRow selector from to) rows lines → AllZip (AreOfRow selector low high) rows (map (filter (is_between low high)) lines)
  narrow_rows selector [] [] all = all
  narrow_rows selector [] (of_row ∷ lines) all = absurd all
  narrow_rows selector (row ∷ rows) [] all = absurd all
  narrow_rows selector (row ∷ rows) (of_row ∷ lines) all = (narrow_row selector row of_row all.0, narrow_rows selector rows lines all.1)

-- where a window begins, by its seconds and the moment at which it ends
abbrev pub start_at : (seconds t : ℕ) → ℕ
start_at seconds t = t + 1 - seconds * second

pub starts_at : (seconds t : ℕ) → IsStartOf seconds t (start_at seconds t)
starts_at seconds t timestamp = ap (λ b. b && leb timestamp t) (same (seconds * second))
  where
    same : (r : ℕ) → ltb t (timestamp + r) ≡ leb (t + 1 - r) timestamp
    same r = elim (ltb t (timestamp + r)) as (λ b. ltb t (timestamp + r) ≡ b → b ≡ leb (t + 1 - r) timestamp) [
      | true ↦ λ is. sym (le-leb (t + 1 - r) timestamp (omega (arith, ltb-true t (timestamp + r) is)))
      | false ↦ λ is. sym (lt-leb (t + 1 - r) timestamp (omega (arith, ltb-false t (timestamp + r) is)))
    ] refl
