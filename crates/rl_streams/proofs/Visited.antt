-- What is visited of streams one after the other, and what is read for it.
use Rattle.std.proofs.Common.{◌≡◌, ℕ, zero, suc, Bool, true, false, cond, ◌&&◌, ◌↔◌, IsTrue, Contains, Some, None, Option, is_some, List, [], ◌∷◌, ◌++◌, map, filter, slice_get, Result, Ok, Err, refl, sym, ap, subst, ◌∙◌, true≢false, inr}
use Rattle.std.specs.Prelude.{IfOk, MatchBool, MatchResult, OnOk, if◌then◌else◌}
use Rattle.std.specs.List.{All, AllByRecursion, IsDistinct, flat_map, fold}
use Rattle.std.specs.BTreeMap.{is_at}
use Rattle.std.specs.Ordering.{eq_by_cmp, is_eq}
use Rattle.std.specs.Cmp.{tied_itself}
use Rattle.std.specs.FinMap.{get}
use Rattle.std.proofs.lemmas.List.Sorted.{IsPermutation-sym}
use Rattle.std.specs.Map.{lookup, keys_of, values_of}
use Rattle.std.proofs.lemmas.List.{map-append}
use Rattle.std.proofs.lemmas.List.Folds.{flat_map-map}
use Rattle.std.proofs.lemmas.List.Sums.{fold-append}
use Rattle.std.proofs.lemmas.List.Elements.{filter-append, All-head, All-tail}
use Rattle.rl_labels.specs.LabelSet.{LabelSet}
use Rattle.rl_labels.specs.LabelText.{label_set_cmp, label_set_eq}
use Rattle.rl_labels.specs.EntryOrder.{entry_cmp}
use Rattle.rl_labels.specs.laws.OrderLaws.{entry_cmp_total, entry_cmp-IsAntisymmetric}
use Rattle.rl_labels.specs.Selects.{selects}
use Rattle.rl_labels.specs.laws.TextLaws.{label_set_eq_itself, label_set_eq-true, label_set_cmp_total}
use Rattle.rl_labels.specs.declared.entry.Entry.{Entry}
use Rattle.rl_labels.specs.declared.matcher.Matcher.{Matcher}
use Rattle.rl_parts.specs.laws.AnswerLaws.{right_then}
use Rattle.rl_parts.specs.ChunksState.{ChunksView}
use Rattle.rl_chunks.specs.declared.line.Line.{Line}
use Rattle.rl_parts.specs.StreamParts.{StreamView, entries_of}
use Rattle.rl_parts.specs.StoreUse.{AreKept, Reads, Right}
use Rattle.rl_parts.specs.laws.UseLaws.{Keeps-reads}
use Rattle.rl_parts.specs.laws.VisitorLaws.{fold-pushed}
use Rattle.rl_parts.specs.Reading.{is_in_range, visited, visited_in_range, IsFoundIn, IsMissingIn, IsVisited}
use Rattle.rl_parts.specs.declared.fault.ReadFault.{ReadFault}
use Rattle.rl_streams.specs.Asking.{is_asked, asked, visited_of, visited_by, visited_at, left, AreOfParts, AreOfRow, AreVisitedOnce, IsVisitedOf, NoneSelected}
use Rattle.rl_streams.specs.Found.{IsFound, IsMissing, IsStreamOf}
use Rattle.rl_streams.specs.RowSteps.{AreOthers, IsPositionOf}
use Rattle.rl_streams.specs.HeldSet.{set_of}
use Rattle.rl_streams.specs.laws.HeldLaws.{keys-of_distinct}
use Rattle.rl_streams.specs.StreamRows.{Row, joined, by_stream, newest_in, newest_map, is_among, IsOwn, AreStreams}
use Rattle.rl_streams.proofs.Added.{row_of_position}
use Rattle.rl_plain.specs.laws.TreeMaps.{get-of_tree}
use Rattle.rl_streams.proofs.Held.{answer_is, held_at}
use Rattle.rl_streams.proofs.RowChanges.{at_row, with_key, not_none, same_some}
use Rattle.rl_streams.proofs.Steps.{streams_kept}

module _ (rows : List Row) (i : ℕ) (entry : Entry) (stream : StreamView) (position : IsPositionOf rows entry.labels (Some i)) (at : slice_get (values_of rows) i ≡ Some stream) where
  -- there is a stream of its labels
  pub not_others : AreOthers entry.labels rows → ⊥
  not_others others = true≢false (sym (label_set_eq_itself entry.labels) ∙ at_row (λ row. label_set_eq entry.labels row.0 ≡ false) rows i (entry.labels, stream) others (row_of_position rows i entry.labels stream position at))

  -- what the stream answers is right of all streams
  pub found_at : (result : Result Bool ReadFault) (chunks : ChunksView) → AreStreams rows chunks → (AreKept chunks stream → Right result (λ found. IsTrue found ↔ Contains (entries_of stream) entry)) → Right result (λ found. found ≡ is_among entry (joined rows))
  found_at result chunks are right =
      let row = row_of_position rows i entry.labels stream position at in
      right_then (λ found. IsTrue found ↔ Contains (entries_of stream) entry) (λ found. found ≡ is_among entry (joined rows)) (λ found is. answer_is entry found (entries_of stream) is ∙ sym (held_at entry rows i stream are.own are.apart row)) result
      (right (at_row (λ row. AreKept chunks row.1) rows i (entry.labels, stream) are.kept row))

  -- it stands there
  pub stream_there : IsStreamOf rows entry.labels stream
  stream_there = record { position = i; stands = row_of_position rows i entry.labels stream position at }

  -- and what it answers over any store is so of all streams
  pub yes_at : (result : Result Bool ReadFault) → IfOk result (λ found. found ≡ true → IsFoundIn entry stream) → IfOk result (λ found. found ≡ true → IsFound rows entry)
  yes_at (Ok found) has = λ e. (stream, stream_there, has e)
  yes_at (Err _) has = tt

  pub no_at : (result : Result Bool ReadFault) → IfOk result (λ found. found ≡ false → IsMissingIn entry stream) → IfOk result (λ found. found ≡ false → IsMissing rows entry)
  no_at (Ok found) lacks = λ e. inr (stream, stream_there, lacks e)
  no_at (Err _) lacks = tt

  pub exact_at : (result : Result Bool ReadFault) → AllByRecursion IsOwn rows → IsDistinct label_set_eq (keys_of rows) → MatchResult result (λ found. IsTrue found ↔ Contains (entries_of stream) entry) (λ _. ⊥) → result ≡ Ok (is_among entry (joined rows))
  exact_at (Ok found) own apart exact = ap Ok (answer_is entry found (entries_of stream) exact ∙ sym (held_at entry rows i stream own apart (row_of_position rows i entry.labels stream position at)))
  exact_at (Err _) own apart exact = absurd exact

module _ (selector : List Matcher) (from to : ℕ) where
  -- entries of one stream that are asked for
  of_stream : (labels : LabelSet) (entries : List Entry) → All (λ entry. entry.labels ≡ labels) entries → map visited (asked selector from to entries) ≡ (if selects selector labels then visited_in_range from to entries else [])
  of_stream labels [] own = none (selects selector labels)
    where
      none : (b : Bool) → [] ≡ (if b then visited_in_range from to [] else [])
      none true = refl
      none false = refl
  of_stream labels (entry ∷ entries) own =
      ap (λ set. map visited (cond (selects selector set && is_in_range from to entry) (entry ∷ asked selector from to entries) (asked selector from to entries))) (All-head (λ e. e.labels ≡ labels) entry entries own)
      ∙ by (selects selector labels) (is_in_range from to entry) (of_stream labels entries (All-tail (λ e. e.labels ≡ labels) entry entries own))
    where
      by : (a b : Bool) → map visited (asked selector from to entries) ≡ (if a then visited_in_range from to entries else [])
          → map visited (cond (a && b) (entry ∷ asked selector from to entries) (asked selector from to entries)) ≡ (if a then map visited (cond b (entry ∷ filter (is_in_range from to) entries) (filter (is_in_range from to) entries)) else [])
      by true true others = ap (λ l. visited entry ∷ l) others
      by true false others = others
      by false b others = others

  -- what is visited of all streams is what is asked of all entries
  pub visited_all : (rows : List Row) → AllByRecursion IsOwn rows → visited_by selector from to rows ≡ map visited (asked selector from to (joined rows))
  visited_all [] own = refl
  visited_all (row ∷ rows) own =
      ap (λ l. l ++ visited_by selector from to rows) (sym (of_stream row.0 (entries_of row.1) own.0.entries))
      ∙ ap (λ l. map visited (asked selector from to (entries_of row.1)) ++ l) (visited_all rows own.1)
      ∙ sym (map-append visited (asked selector from to (entries_of row.1)) (asked selector from to (joined rows)))
      ∙ ap (map visited) (sym (filter-append (is_asked selector from to) (entries_of row.1) (joined rows)))

  -- a stream at an index is kept, after reads
  pub kept_there : (rows : List Row) (i : ℕ) (stream : StreamView) (old new : ChunksView) → AreStreams rows old → Reads old new → slice_get (values_of rows) i ≡ Some stream → AreKept new stream
  kept_there rows i stream old new are reads at =
      let row = with_key rows i stream at in
      at_row (λ row. AreKept new row.1) rows i (row.0, stream) (streams_kept rows old are new (Keeps-reads old new reads)).kept row.1

-- each once: what is visited of all streams, where no entry is held twice
pub visited_once : {T : Type 0} (visiting : T → LabelSet × Line → T) (selector : List Matcher) (from to : ℕ) (rows : List Row) (before after : T) → AllByRecursion IsOwn rows → IsDistinct (eq_by_cmp entry_cmp) (joined rows)
    → after ≡ fold visiting before (visited_by selector from to rows) → AreVisitedOnce selector from to (set_of (joined rows)) visiting before after
visited_once visiting selector from to rows before after own once is = record {
  order = asked selector from to (joined rows);
  once = IsPermutation-sym _ _ (keys-of_distinct entry_cmp_total entry_cmp-IsAntisymmetric (is_asked selector from to) (joined rows) once);
  visited = is ∙ ap (fold visiting before) (visited_all selector from to rows own);
}

-- over any store: what is visited of a stream that is selected
pub of_row : (selector : List Matcher) (from to : ℕ) (stream : StreamView) {T : Type 0} (visiting : T → LabelSet × Line → T) (before after : T) → selects selector stream.labels ≡ true
    → (result : Result (Unit {0}) ReadFault) → OnOk result ((mid : T) × IsVisited visiting stream.labels from to stream.parts before mid × (after ≡ fold visiting mid (visited_in_range from to stream.head)))
    → OnOk result (IsVisitedOf visiting selector from to (stream.labels, stream) before after)
of_row selector from to stream visiting before after selected (Ok _) (mid, given, head) =
    let sealed = flat_map (λ piece. piece) given.pieces in
    let lines = sealed ++ visited_in_range from to stream.head in record {
      lines = lines;
      of_row = subst (λ b. MatchBool b (AreOfParts from to stream lines) (lines ≡ [])) (sym selected) (record { pieces = given.pieces; each = given.each; all = refl });
      visited = head ∙ ap (λ t. fold visiting t (visited_in_range from to stream.head)) given.becomes ∙ sym (fold-append visiting before sealed (visited_in_range from to stream.head));
    }
of_row selector from to stream visiting before after selected (Err _) given = tt

-- and of one that is not: nothing
pub none_of_row : (selector : List Matcher) (from to : ℕ) (row : Row) → selects selector row.0 ≡ false → AreOfRow selector from to row []
none_of_row selector from to row e = let none : List (LabelSet × Line) = [] in subst (λ b. MatchBool b (AreOfParts from to row.1 none) (none ≡ none)) (sym e) refl

-- a stream that is there has a newest timestamp
after_another : (row : Row) (rows : List Row) (labels : LabelSet) → is_some (lookup (is_at (label_set_cmp labels)) (newest_in rows)) ≡ true → is_some (lookup (is_at (label_set_cmp labels)) (newest_in (row ∷ rows))) ≡ true
after_another row rows labels there = by (is_at (label_set_cmp labels) row.0)
  where
    by : (b : Bool) → is_some (cond b (Some row.1.newest) (lookup (is_at (label_set_cmp labels)) (newest_in rows))) ≡ true
    by true = refl
    by false = there

all_mapped : (P Q : Row → Type 0) → ((row : Row) → P row → Q row) → (rows : List Row) → AllByRecursion P rows → AllByRecursion Q rows
all_mapped P Q f [] h = tt
all_mapped P Q f (row ∷ rows) h = (f row h.0, all_mapped P Q f rows h.1)

have_newest : (rows : List Row) → AllByRecursion (λ row. is_some (lookup (is_at (label_set_cmp row.0)) (newest_in rows)) ≡ true) rows
have_newest [] = tt
have_newest (row ∷ rows) = (
  ap (λ b. is_some (cond b (Some row.1.newest) (lookup (is_at (label_set_cmp row.0)) (newest_in rows)))) (ap is_eq (tied_itself label_set_cmp_total row.0)),
  all_mapped (λ other. is_some (lookup (is_at (label_set_cmp other.0)) (newest_in rows)) ≡ true) (λ other. is_some (lookup (is_at (label_set_cmp other.0)) (newest_in (row ∷ rows))) ≡ true) (λ other. after_another row rows other.0) rows (have_newest rows),
)

-- so where none is selected, no row is
pub rows_not_selected : (selector : List Matcher) (rows : List Row) → NoneSelected selector (newest_map (newest_in rows)) → AllByRecursion (λ row. selects selector row.0 ≡ false) rows
rows_not_selected selector rows none =
    all_mapped (λ row. is_some (lookup (is_at (label_set_cmp row.0)) (newest_in rows)) ≡ true) (λ row. selects selector row.0 ≡ false) (λ row there. by row there (selects selector row.0) refl) rows (have_newest rows)
  where
    by : (row : Row) → is_some (lookup (is_at (label_set_cmp row.0)) (newest_in rows)) ≡ true → (b : Bool) → selects selector row.0 ≡ b → selects selector row.0 ≡ false
    by row there true e = absurd (true≢false (sym there ∙ ap is_some (sym (get-of_tree label_set_cmp_total (newest_in rows) row.0) ∙ none row.0 e)))
    by row there false e = e

-- and where no stream has the labels, all have others
pub rows_others : (rows : List Row) (labels : LabelSet) → get (newest_map (newest_in rows)) labels ≡ None → AreOthers labels rows
rows_others rows labels none = from rows (ap is_some (sym (get-of_tree label_set_cmp_total (newest_in rows) labels) ∙ none))
  where
    by : (row : Row) → is_some (cond (is_at (label_set_cmp labels) row.0) (Some row.1.newest) None) ≡ false → (b : Bool) → label_set_eq labels row.0 ≡ b → label_set_eq labels row.0 ≡ false
    by row none true e =
        absurd (true≢false (sym (ap (λ key. is_some (cond (is_at (label_set_cmp labels) key) (Some row.1.newest) None)) (sym (label_set_eq-true labels row.0 e))
        ∙ ap (λ b. is_some (cond b (Some row.1.newest) None)) (ap is_eq (tied_itself label_set_cmp_total labels))) ∙ none))
    by row none false e = e

    apart : (a : Bool) (newest : ℕ) (others : Option ℕ) → is_some (cond a (Some newest) others) ≡ false → (is_some (cond a (Some newest) None) ≡ false) × (is_some others ≡ false)
    apart true newest others h = (h, absurd (true≢false h))
    apart false newest others h = (refl, h)

    from : (rows : List Row) → is_some (lookup (is_at (label_set_cmp labels)) (newest_in rows)) ≡ false → AreOthers labels rows
    from [] none = tt
    from (row ∷ rows) none =
        let two = apart (is_at (label_set_cmp labels) row.0) row.1.newest (lookup (is_at (label_set_cmp labels)) (newest_in rows)) none in
        (by row two.0 (label_set_eq labels row.0) refl, from rows two.1)

-- a stream that is asked alone
pub visited_here : (selector : List Matcher) (from to : ℕ) (rows : List Row) (i : ℕ) (stream : StreamView) → AllByRecursion IsOwn rows → slice_get (values_of rows) i ≡ Some stream → visited_of selector from to stream.labels stream ≡ visited_at selector from to (by_stream rows) i
visited_here selector from to [] i stream own at = absurd (not_none stream at)
visited_here selector from to (row ∷ rows) zero stream own at =
    ap (λ (s : StreamView). visited_of selector from to s.labels s) (sym (same_some row.1 stream at))
    ∙ ap (λ labels. visited_of selector from to labels row.1) own.0.labels ∙ sym (of_stream selector from to row.0 (entries_of row.1) own.0.entries)
visited_here selector from to (row ∷ rows) (suc i) stream own at = visited_here selector from to rows i stream own.1 at

-- at first all that is asked for is left
pub left_at_first : (selector : List Matcher) (from to : ℕ) (rows : List Row) → left selector from to (by_stream rows) 0 [] ≡ map visited (asked selector from to (joined rows))
left_at_first selector from to rows = ap (λ entries. map visited (asked selector from to entries)) (flat_map-map (λ entries. entries) (λ (row : Row). entries_of row.1) rows)

-- and each of them once
pub left_once : (selector : List Matcher) (from to : ℕ) (rows : List Row) → IsDistinct (eq_by_cmp entry_cmp) (joined rows) → AreVisitedOnce selector from to (set_of (joined rows)) (λ lines line. lines ++ line ∷ []) [] (left selector from to (by_stream rows) 0 [])
left_once selector from to rows once = record {
  order = asked selector from to (joined rows);
  once = IsPermutation-sym _ _ (keys-of_distinct entry_cmp_total entry_cmp-IsAntisymmetric (is_asked selector from to) (joined rows) once);
  visited = left_at_first selector from to rows ∙ sym (fold-pushed [] (map visited (asked selector from to (joined rows))));
}
