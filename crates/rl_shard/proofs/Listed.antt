-- What a visit lists of the lines that turn, and that it is what the held entries that turn change in windows.
use Rattle.std.specs.Prelude.{◌≡◌, ◌⊎◌, ℕ, ◌+◌, ◌<◌, ◌≤◌, nat_le, nat_lt, ◌==◌, Bool, true, false, cond, not, ◌&&◌, List, [], ◌∷◌, ◌++◌, length, map, MatchBool, refl}
use Rattle.std.specs.FinMap.{keys}
use Rattle.std.specs.List.{AllByRecursion, AllZip, filter, flat_map, fold, sum_by}
use Rattle.std.specs.List.Sorted.{IsPermutation}
use Rattle.std.specs.Option.{MatchOption}
use Rattle.std.specs.Ordering.{is_lt, nat_cmp}
use Rattle.std.specs.declared.cmp.Ordering.TheVariants.{Less, Equal, Greater}
use Rattle.std.proofs.Common.{None, Some, sym, ap, subst, ◌∙◌, append-nil, append_assoc, arith, ⊎_elim}
use Rattle.std.proofs.lemmas.Bool.{le-leb, leb-false, ltb-true, true≢false}
use Rattle.std.proofs.lemmas.List.Elements.{recursion_from_All}
use Rattle.std.proofs.lemmas.List.Sorted.{sum_by-IsPermutation}
use Rattle.std.proofs.lemmas.List.Sums.{sum_by-cons}
use Rattle.rl_labels.specs.EntryOrder.{EntrySet}
use Rattle.rl_labels.specs.EntryParts.{longest_line}
use Rattle.rl_labels.specs.LabelSet.{LabelSet}
use Rattle.rl_labels.specs.Quantity.{greatest_moment}
use Rattle.rl_labels.specs.Selects.{selects}
use Rattle.rl_labels.specs.TimeRange.{TimeRangeView}
use Rattle.rl_labels.specs.declared.entry.Entry.{Entry}
use Rattle.rl_labels.specs.declared.matcher.Matcher.{Matcher}
use Rattle.rl_chunks.specs.ChunkText.{IsLine}
use Rattle.rl_chunks.specs.declared.chunk.Chunk.{Chunk}
use Rattle.rl_chunks.specs.declared.line.Line.{Line}
use Rattle.rl_parts.specs.Reading.{is_in_range, lines_in_range, visited, visited_in_range, IsApart, IsPiece, IsReadAs}
use Rattle.rl_parts.specs.StreamParts.{PartView}
use Rattle.rl_streams.specs.Asking.{asked, is_asked, AreOfParts, AreOfRow}
use Rattle.rl_streams.specs.StreamRows.{Row}
use Rattle.rl_windows.specs.Built.{timely}
use Rattle.rl_slots.specs.Slots.{changes_of, changes_of_all, AreNeededFrom, IsOfLine, SlotView}
use Rattle.rl_slots.specs.laws.Exact.{changes-lines}
use Rattle.rl_slots.specs.declared.change.Change.{Change}
use Rattle.rl_shard.specs.Turning.{with_line, AreTurned, IsWithin}

-- LISTS

-- what holds of the items of two lists holds of those of both
all_append : {X : Type 0} (P : X → Type 0) (xs ys : List X) → AllByRecursion P xs → AllByRecursion P ys → AllByRecursion P (xs ++ ys)
all_append P [] ys own others = others
all_append P (x ∷ xs) ys own others = (own.0, all_append P xs ys own.1 others)

-- what holds of what each item gives holds of what all give
all_flat : {X Y : Type 0} (P : Y → Type 0) (Q : X → Type 0) (f : X → List Y) → ((x : X) → Q x → AllByRecursion P (f x)) → (xs : List X) → AllByRecursion Q xs → AllByRecursion P (flat_map f xs)
all_flat P Q f each [] all = tt
all_flat P Q f each (x ∷ xs) all = all_append P (f x) (flat_map f xs) (each x all.0) (all_flat P Q f each xs all.1)

-- what holds of all items holds of those that pass
all_kept : {X : Type 0} (P : X → Type 0) (p : X → Bool) (xs : List X) → AllByRecursion P xs → AllByRecursion P (filter p xs)
all_kept P p [] all = tt
all_kept P p (x ∷ xs) all = elim (p x) as (λ b. AllByRecursion P (cond b (x ∷ filter p xs) (filter p xs))) [ true ↦ (all.0, all_kept P p xs all.1) | false ↦ all_kept P p xs all.1 ]

-- what holds of each item that passes holds of those that pass
all_passing : {X : Type 0} (P : X → Type 0) (p : X → Bool) → ((x : X) → p x ≡ true → P x) → (xs : List X) → AllByRecursion P (filter p xs)
all_passing P p each [] = tt
all_passing P p each (x ∷ xs) = elim (p x) as (λ b. p x ≡ b → AllByRecursion P (cond b (x ∷ filter p xs) (filter p xs))) [
  | true ↦ λ is. (each x is, all_passing P p each xs)
  | false ↦ λ _. all_passing P p each xs
] refl

-- a number of each item that passes is a number of each item, 0 where it does not
sum_kept : {X : Type 0} (f : X → ℕ) (p : X → Bool) (xs : List X) → sum_by f (filter p xs) ≡ sum_by (λ x. cond (p x) (f x) 0) xs
sum_kept f p [] = refl
sum_kept f p (x ∷ xs) =
    elim (p x) as (λ b. sum_by f (cond b (x ∷ filter p xs) (filter p xs)) ≡ cond b (f x) 0 + sum_by (λ x. cond (p x) (f x) 0) xs) [
      | true ↦ sum_by-cons f x (filter p xs) ∙ ap (λ n. f x + n) (sum_kept f p xs)
      | false ↦ omega (arith, sum_kept f p xs)
    ]
    ∙ sym (sum_by-cons (λ x. cond (p x) (f x) 0) x xs)

-- where a number of each item is the sum of two others, so is that of all
sum_both : {X : Type 0} (f g h : X → ℕ) → ((x : X) → f x + g x ≡ h x) → (xs : List X) → sum_by f xs + sum_by g xs ≡ sum_by h xs
sum_both f g h each [] = refl
sum_both f g h each (x ∷ xs) = omega (arith, sum_by-cons f x xs, sum_by-cons g x xs, sum_by-cons h x xs, each x, sum_both f g h each xs)

-- MOMENTS

-- one that compares as less is before
pub before_from : (a b : ℕ) → is_lt (nat_cmp a b) ≡ true → a < b
before_from a b = elim (nat_lt a b) as (λ t. nat_lt a b ≡ t → is_lt (cond t Less (cond (a == b) Equal Greater)) ≡ true → a < b) [
  | true ↦ λ is _. ltb-true a b is
  | false ↦ λ _. elim (a == b) as (λ t. is_lt (cond t Equal Greater) ≡ true → a < b) [
    | true ↦ λ is. absurd (true≢false (sym is))
    | false ↦ λ is. absurd (true≢false (sym is))
  ]
] refl

-- LINES THAT ARE VISITED

-- no longer than a line may be
abbrev pub IsShort : LabelSet × Line → Type 0
IsShort line = length line.1.text ≤ longest_line

-- the lines of entries are short
short_visited : (entries : List Entry) → AllByRecursion IsShort (map visited entries)
short_visited [] = tt
short_visited (entry ∷ entries) = (entry.fits, short_visited entries)

-- those of a chunk are
short_lines : (labels : LabelSet) (lines : List Line) → AllByRecursion IsLine lines → AllByRecursion IsShort (map (λ line. (labels, line)) lines)
short_lines labels [] all = tt
short_lines labels (line ∷ lines) all = (all.0.short, short_lines labels lines all.1)

module _ (from to : ℕ) where
  -- what is visited of a part over any store is short
  short_piece : (labels : LabelSet) (part : PartView) (piece : List (LabelSet × Line)) → IsPiece labels from to part piece → AllByRecursion IsShort piece
  short_piece labels part piece = elim part.note as (λ note. MatchOption note (piece ≡ visited_in_range from to part.entries) (λ note. (IsApart from to part.entries × (piece ≡ [])) ⊎ ((chunk : Chunk) × IsReadAs note.digest chunk × (piece ≡ lines_in_range labels from to chunk.lines)))
      → AllByRecursion IsShort piece) [
        | None ↦ λ is. subst (AllByRecursion IsShort) (sym is) (short_visited (filter (is_in_range from to) part.entries))
        | Some note ↦ ⊎_elim
            (λ apart. subst (AllByRecursion IsShort) (sym apart.1) tt)
            (λ chunk.
            let in_range = λ (line : Line). nat_le from line.timestamp && nat_le line.timestamp to in
            subst (AllByRecursion IsShort) (sym chunk.2)
            (short_lines labels (filter in_range chunk.0.lines) (all_kept IsLine in_range chunk.0.lines (recursion_from_All IsLine chunk.0.lines chunk.1.1.ranges.lines))))
      ]

  -- so is that of parts
  short_pieces : (labels : LabelSet) (parts : List PartView) (pieces : List (List (LabelSet × Line))) → AllZip (IsPiece labels from to) parts pieces → AllByRecursion (AllByRecursion IsShort) pieces
  short_pieces labels [] [] all = tt
  short_pieces labels [] (piece ∷ pieces) all = absurd all
  short_pieces labels (part ∷ parts) [] all = absurd all
  short_pieces labels (part ∷ parts) (piece ∷ pieces) all = (short_piece labels part piece all.0, short_pieces labels parts pieces all.1)

  -- that of a stream
  short_row : (selector : List Matcher) (row : Row) (lines : List (LabelSet × Line)) → AreOfRow selector from to row lines → AllByRecursion IsShort lines
  short_row selector row lines = elim (selects selector row.0) as (λ b. MatchBool b (AreOfParts from to row.1 lines) (lines ≡ []) → AllByRecursion IsShort lines) [
    | true ↦ λ are. subst (AllByRecursion IsShort) (sym are.all) (
        all_append IsShort (flat_map (λ piece. piece) are.pieces) (visited_in_range from to row.1.head)
        (all_flat IsShort (AllByRecursion IsShort) (λ piece. piece) (λ piece short. short) are.pieces (short_pieces row.1.labels row.1.parts are.pieces are.each))
        (short_visited (filter (is_in_range from to) row.1.head)))
    | false ↦ λ none. subst (AllByRecursion IsShort) (sym none) tt
  ]

  -- and that of all streams
  pub short_rows : (selector : List Matcher) (rows : List Row) (lines : List (List (LabelSet × Line))) → AllZip (AreOfRow selector from to) rows lines → AllByRecursion (AllByRecursion IsShort) lines
  short_rows selector [] [] all = tt
  short_rows selector [] (of_row ∷ lines) all = absurd all
  short_rows selector (row ∷ rows) [] all = absurd all
  short_rows selector (row ∷ rows) (of_row ∷ lines) all = (short_row selector row of_row all.0, short_rows selector rows lines all.1)

-- and of all streams together
pub short_all : (lines : List (List (LabelSet × Line))) → AllByRecursion (AllByRecursion IsShort) lines → AllByRecursion IsShort (flat_map (λ of_row. of_row) lines)
short_all lines short = all_flat IsShort (AllByRecursion IsShort) (λ of_row. of_row) (λ of_row own. own) lines short

-- LINES THAT TURN

module _ (covers_line : LabelSet → ℕ → List ℕ → Bool) (slots : List SlotView) where
  -- the line turns
  abbrev pub turns_at : LabelSet × Line → Bool
  turns_at line = covers_line line.0 line.1.timestamp line.1.text

  -- what it changes
  abbrev pub line_changes : LabelSet × Line → List Change
  line_changes line = changes_of (record { labels = line.0; text = line.1.text }) line.1.timestamp slots

  -- what lines change that turn
  abbrev pub changes_by : List (LabelSet × Line) → List Change
  changes_by lines = flat_map line_changes (filter turns_at lines)

  -- a visitor that lists what each line changes that turns lists what all of them change
  pub lists_all : {T : Type 0} (step : T → LabelSet × Line → T) (make : List Change → T) → ((changes : List Change) (line : LabelSet × Line) → step (make changes) line ≡ cond (turns_at line) (make (with_line slots changes line)) (make changes))
      → (changes : List Change) (lines : List (LabelSet × Line)) → fold step (make changes) lines ≡ make (changes ++ changes_by lines)
  lists_all step make steps changes [] = ap make (sym (append-nil changes))
  lists_all step make steps changes (line ∷ lines) =
      ap (λ visitor. fold step visitor lines) (steps changes line)
      ∙ elim (turns_at line) as (λ b. fold step (cond b (make (with_line slots changes line)) (make changes)) lines ≡ make (changes ++ flat_map line_changes (cond b (line ∷ filter turns_at lines) (filter turns_at lines)))) [
        | true ↦ lists_all step make steps (with_line slots changes line) lines ∙ ap make (append_assoc changes (line_changes line) (changes_by lines))
        | false ↦ lists_all step make steps changes lines
      ]

  -- each of these is of one line
  pub of_lines : (lines : List (LabelSet × Line)) → AllByRecursion IsShort lines → AllByRecursion (λ (change : Change). IsOfLine change.element.volume) (changes_by lines)
  of_lines lines short =
      all_flat (λ (change : Change). IsOfLine change.element.volume) IsShort line_changes (λ line is. changes-lines (record { labels = line.0; text = line.1.text }) line.1.timestamp is slots) (filter turns_at lines)
      (all_kept IsShort turns_at lines short)

  -- ENTRIES THAT TURN

  module _ (covers : Entry → Bool) (by_parts : (entry : Entry) → covers entry ≡ covers_line entry.labels entry.timestamp entry.line) where
    -- the lines of entries change what the entries do
    pub by_entries : (entries : List Entry) → changes_by (map visited entries) ≡ changes_of_all (filter covers entries) slots
    by_entries [] = refl
    by_entries (entry ∷ entries) =
        let others = filter turns_at (map visited entries) in
        ap (λ b. flat_map line_changes (cond b (visited entry ∷ others) others)) (sym (by_parts entry))
        ∙ elim (covers entry) as (λ b. flat_map line_changes (cond b (visited entry ∷ others) others) ≡ changes_of_all (cond b (entry ∷ filter covers entries) (filter covers entries)) slots) [
          | true ↦ ap (λ rest. line_changes (visited entry) ++ rest) (by_entries entries)
          | false ↦ by_entries entries
        ]

    module _ (selector : List Matcher) (range : TimeRangeView) (within : (entry : Entry) → covers entry ≡ true → IsWithin selector range entry) (there_is : range.to ≤ greatest_moment) (held : EntrySet)
        (needed first : ℕ) (from_needed : AreNeededFrom needed slots) (from_first : (t : ℕ) → range.from ≤ t → t < first → t < needed) where
      -- the held entries that turn
      abbrev turned : List Entry
      turned = filter covers (timely (keys held))

      -- where no moment is left to ask for, no window needs any of them
      pub none_asked : range.to < first → AreTurned covers held slots []
      none_asked none = record {
        entries = [];
        others = turned;
        sums = λ number. omega arith;
        first = needed;
        needed = from_needed;
        before = all_passing (λ (entry : Entry). entry.timestamp < needed) covers (λ entry is. from_first entry.timestamp (within entry is).1 (omega (arith, none, (within entry is).2))) (timely (keys held));
        listed = refl;
      }

      -- one that is not asked for
      abbrev is_left : Entry → Bool
      is_left entry = not (is_asked selector first range.to entry)

      one_left : (b : Bool) → not (true && (b && true)) ≡ true → b ≡ false
      one_left true is = absurd (true≢false (sym is))
      one_left false is = refl

      -- of those that turn no window needs it
      before_needed : (entry : Entry) → covers entry ≡ true → is_left entry ≡ true → entry.timestamp < needed
      before_needed entry turns is =
          let own = within entry turns in
          let late : nat_le entry.timestamp range.to ≡ true = le-leb entry.timestamp range.to own.2 in
          let early = one_left (nat_le first entry.timestamp) ((λ i. not (sym own.0 i && (nat_le first entry.timestamp && sym late i))) ∙ is) in
          from_first entry.timestamp own.1 (leb-false first entry.timestamp early)

      all_left : (entries : List Entry) → AllByRecursion (λ entry. entry.timestamp < needed) (filter is_left (filter covers entries))
      all_left [] = tt
      all_left (entry ∷ entries) =
          let others = filter covers entries in
          elim (covers entry) as (λ b. covers entry ≡ b → AllByRecursion (λ (entry : Entry). entry.timestamp < needed) (filter is_left (cond b (entry ∷ others) others))) [
            | true ↦ λ turns. elim (is_left entry) as (λ b. is_left entry ≡ b → AllByRecursion (λ (entry : Entry). entry.timestamp < needed) (cond b (entry ∷ filter is_left others) (filter is_left others))) [
              | true ↦ λ is. (before_needed entry turns is, all_left entries)
              | false ↦ λ _. all_left entries
            ] refl
            | false ↦ λ _. all_left entries
          ] refl

      one_split : (asks is_timely turns : Bool) (n : ℕ) → (turns ≡ true → is_timely ≡ true) → cond asks (cond turns n 0) 0 + cond is_timely (cond turns (cond (not asks) n 0) 0) 0 ≡ cond is_timely (cond turns n 0) 0
      one_split true true true n is = omega arith
      one_split true true false n is = refl
      one_split true false true n is = absurd (true≢false (sym (is refl)))
      one_split true false false n is = refl
      one_split false true true n is = omega arith
      one_split false true false n is = refl
      one_split false false turns n is = refl

      -- those that turn are those that are asked for and those that are not
      sums_split : (order : List Entry) → IsPermutation (asked selector first range.to (keys held)) order → (number : Entry → ℕ) → sum_by number (filter covers order) + sum_by number (filter is_left turned) ≡ sum_by number turned
      sums_split order moved number =
          let asks = is_asked selector first range.to in
          let is_timely = λ (entry : Entry). nat_le entry.timestamp greatest_moment in
          let own = λ (entry : Entry). cond (covers entry) (number entry) 0 in
          let other = λ (entry : Entry). cond (is_left entry) (number entry) 0 in
          let of_asked : sum_by number (filter covers order) ≡ sum_by (λ entry. cond (asks entry) (own entry) 0) (keys held) =
          sum_kept number covers order ∙ sum_by-IsPermutation own (asked selector first range.to (keys held)) order moved ∙ sum_kept own asks (keys held) in
          let of_others : sum_by number (filter is_left turned) ≡ sum_by (λ entry. cond (is_timely entry) (cond (covers entry) (other entry) 0) 0) (keys held) =
          sum_kept number is_left turned ∙ sum_kept other covers (timely (keys held)) ∙ sum_kept (λ entry. cond (covers entry) (other entry) 0) is_timely (keys held) in
          let of_all : sum_by number turned ≡ sum_by (λ entry. cond (is_timely entry) (own entry) 0) (keys held) =
          sum_kept number covers (timely (keys held)) ∙ sum_kept own is_timely (keys held) in
          (λ i. of_asked i + of_others i)
          ∙ sum_both (λ entry. cond (asks entry) (own entry) 0) (λ entry. cond (is_timely entry) (cond (covers entry) (other entry) 0) 0) (λ entry. cond (is_timely entry) (own entry) 0)
          (λ entry. one_split (asks entry) (is_timely entry) (covers entry) (number entry) (λ turns. le-leb entry.timestamp greatest_moment (omega (arith, (within entry turns).2, there_is)))) (keys held)
          ∙ sym of_all

      -- the entries that were asked for change what those that turn do
      pub some_asked : (order : List Entry) → IsPermutation (asked selector first range.to (keys held)) order → (changes : List Change) → changes ≡ changes_by (map visited order) → AreTurned covers held slots changes
      some_asked order moved changes is = record {
        entries = filter covers order;
        others = filter is_left turned;
        sums = sums_split order moved;
        first = needed;
        needed = from_needed;
        before = all_left (timely (keys held));
        listed = is ∙ by_entries order;
      }
