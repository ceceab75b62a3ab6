-- The indices of the streams that a selector selects, and what is visited of the streams there, one after the other.
use Rattle.std.proofs.Common.{◌≡◌, ℕ, zero, suc, ◌+◌, ◌<◌, Bool, true, false, Some, List, [], ◌∷◌, ◌++◌, length, map, take, get_or, slice_get, slice_set, refl, sym, ap, subst, ◌∙◌, append-nil, arith}
use Rattle.std.specs.Prelude.{if◌then◌else◌}
use Rattle.std.specs.List.{AllByRecursion, AllZip, flat_map, fold}
use Rattle.std.specs.Map.{keys_of, values_of}
use Rattle.std.specs.Option.{option_map}
use Rattle.std.proofs.lemmas.List.{length-append, length-take-le, map-append, take-append-le, take_all, take_more}
use Rattle.std.proofs.lemmas.List.Concat.{flat_map-append}
use Rattle.std.proofs.lemmas.List.Sums.{fold-append}
use Rattle.rl_labels.specs.LabelSet.{LabelSet}
use Rattle.rl_labels.specs.Selects.{selects}
use Rattle.rl_labels.specs.declared.matcher.Matcher.{Matcher}
use Rattle.rl_chunks.specs.declared.line.Line.{Line}
use Rattle.rl_parts.specs.laws.VisitorLaws.{AllZip-append}
use Rattle.rl_parts.specs.Reading.{visited_in_range}
use Rattle.rl_parts.specs.StreamParts.{StreamView, entries_of}
use Rattle.rl_streams.specs.Asking.{visited_of, visited_by, AreOfRow, AreVisited}
use Rattle.rl_streams.specs.Selected.{SelectionView, asked_next, selected, AreSelections, IsSelection}
use Rattle.rl_streams.specs.StreamRows.{Row, newest_in, IsOwn}
use Rattle.rl_parts.specs.laws.EachLaws.{all_weaker}
use Rattle.rl_streams.proofs.RowChanges.{at_row, not_none, same_some, with_key}
use Rattle.rl_streams.proofs.Visited.{none_of_row}

-- one stream more
pub selected_push : (selector : List Matcher) (labels : List LabelSet) (one : LabelSet) → selected selector (labels ++ one ∷ []) ≡ selected selector labels ++ (if selects selector one then length labels ∷ [] else [])
selected_push selector [] one = by (selects selector one)
  where
    by : (b : Bool) → (let one : List ℕ = 0 ∷ [] in let none : List ℕ = [] in (if b then one else none) ≡ (if b then one else none))
    by b = refl
selected_push selector (first ∷ labels) one =
    by (selects selector first) (map suc (selected selector (labels ++ one ∷ []))) (map suc (selected selector labels)) (if selects selector one then suc (length labels) ∷ [] else [])
    (ap (map suc) (selected_push selector labels one) ∙ map-append suc (selected selector labels) (if selects selector one then length labels ∷ [] else []) ∙ ap (λ l. map suc (selected selector labels) ++ l) (lifted (selects selector one)))
  where
    lifted : (b : Bool) → map suc (if b then length labels ∷ [] else []) ≡ (if b then suc (length labels) ∷ [] else [])
    lifted true = refl
    lifted false = refl

    by : (b : Bool) (xs ys zs : List ℕ) → xs ≡ ys ++ zs → (if b then 0 ∷ xs else xs) ≡ (if b then 0 ∷ ys else ys) ++ zs
    by true xs ys zs e = ap (λ l. 0 ∷ l) e
    by false xs ys zs e = e

-- a stream that was asked
module _ (labels : List LabelSet) (s : SelectionView) (one : LabelSet) (is : IsSelection labels s) (within : s.asked < length labels) (at : get_or labels s.asked one ≡ one) where
  chosen : (b : Bool) → (if b then s.positions ++ s.asked ∷ [] else s.positions) ≡ s.positions ++ (if b then s.asked ∷ [] else [])
  chosen true = refl
  chosen false = sym (append-nil s.positions)

  pub next_asked : IsSelection labels (asked_next s one)
  next_asked = record {
    asked = omega (arith, within);
    positions = chosen (selects s.selector one)
        ∙ ap (λ ps. ps ++ (if selects s.selector one then s.asked ∷ [] else [])) is.positions
        ∙ ap (λ n. selected s.selector (take s.asked labels) ++ (if selects s.selector one then n ∷ [] else [])) (sym (length-take-le s.asked labels is.asked))
        ∙ sym (selected_push s.selector (take s.asked labels) one)
        ∙ ap (λ l. selected s.selector (take s.asked labels ++ l ∷ [])) (sym at)
        ∙ ap (selected s.selector) (sym (take_more labels s.asked one within));
  }

-- streams after those that were asked change nothing
pub selections_more : (labels more : List LabelSet) (kept : List SelectionView) → AreSelections labels kept → AreSelections (labels ++ more) kept
selections_more labels more kept are = all_weaker (IsSelection labels) (IsSelection (labels ++ more)) (λ s is. record {
  asked = omega (arith, is.asked, length-append labels more);
  positions = is.positions ∙ ap (selected s.selector) (sym (take-append-le s.asked labels more is.asked));
}) kept are

-- nor do streams that keep their labels
pub keys_newest : (rows : List Row) → keys_of rows ≡ map (λ (p : LabelSet × ℕ). p.0) (newest_in rows)
keys_newest [] = refl
keys_newest (row ∷ rows) = ap (λ ks. row.0 ∷ ks) (keys_newest rows)

pub selections_newest : (old new : List Row) (kept : List SelectionView) → newest_in new ≡ newest_in old → AreSelections (keys_of old) kept → AreSelections (keys_of new) kept
selections_newest old new kept same are = subst (λ labels. AreSelections labels kept) (keys_newest old ∙ ap (map (λ (p : LabelSet × ℕ). p.0)) (sym same) ∙ sym (keys_newest new)) are

pub selections_same : (old new : List Row) (kept : List SelectionView) → new ≡ old → AreSelections (keys_of old) kept → AreSelections (keys_of new) kept
selections_same old new kept same are = subst (λ rows. AreSelections (keys_of rows) kept) (sym same) are

pub selections_after : (old new : List Row) (kept : List SelectionView) → (more : List LabelSet) × (keys_of new ≡ keys_of old ++ more) → AreSelections (keys_of old) kept → AreSelections (keys_of new) kept
selections_after old new kept (more, same) are = subst (λ labels. AreSelections labels kept) (sym same) (selections_more (keys_of old) more kept are)

-- a selected stream stands at the index
abbrev pub IsSelectedAt : List Matcher → List Row → ℕ → Type 0
IsSelectedAt selector rows position = (row : Row) × (slice_get rows position ≡ Some row) × (selects selector row.0 ≡ true)

all_selected : (selector : List Matcher) (rows : List Row) → AllByRecursion (IsSelectedAt selector rows) (selected selector (keys_of rows))
all_selected selector [] = tt
all_selected selector (row ∷ rows) = by (selects selector row.0) refl (all_selected selector rows)
  where
    following : (positions : List ℕ) → AllByRecursion (IsSelectedAt selector rows) positions → AllByRecursion (IsSelectedAt selector (row ∷ rows)) (map suc positions)
    following [] h = tt
    following (position ∷ positions) h = (h.0, following positions h.1)

    by : (b : Bool) → selects selector row.0 ≡ b → AllByRecursion (IsSelectedAt selector rows) (selected selector (keys_of rows))
        → AllByRecursion (IsSelectedAt selector (row ∷ rows)) (if b then 0 ∷ map suc (selected selector (keys_of rows)) else map suc (selected selector (keys_of rows)))
    by true e others = ((row, refl, e), following (selected selector (keys_of rows)) others)
    by false e others = following (selected selector (keys_of rows)) others

one_of : {A : Type 0} (P : A → Type 0) (xs : List A) (i : ℕ) (d : A) → AllByRecursion P xs → i < length xs → P (get_or xs i d)
one_of P [] i d h lt = absurd (omega (arith, lt))
one_of P (x ∷ xs) zero d h lt = h.0
one_of P (x ∷ xs) (suc i) d h lt = one_of P xs i d h.1 (omega (arith, lt))

pub selected_there : (selector : List Matcher) (rows : List Row) (positions : List ℕ) (i : ℕ) (d : ℕ) → positions ≡ selected selector (keys_of rows) → i < length positions → IsSelectedAt selector rows (get_or positions i d)
selected_there selector rows positions i d are lt = one_of (IsSelectedAt selector rows) positions i d (subst (AllByRecursion (IsSelectedAt selector rows)) (sym are) (all_selected selector rows)) lt

-- without a selected stream there is no index
none_selected : (selector : List Matcher) (rows : List Row) → AllByRecursion (λ row. selects selector row.0 ≡ false) rows → selected selector (keys_of rows) ≡ []
none_selected selector [] none = refl
none_selected selector (row ∷ rows) none =
    ap (λ b. if b then 0 ∷ map suc (selected selector (keys_of rows)) else map suc (selected selector (keys_of rows))) none.0
    ∙ ap (map suc) (none_selected selector rows none.1)

pub no_position : (selector : List Matcher) (rows : List Row) (positions : List ℕ) (i : ℕ) → positions ≡ selected selector (keys_of rows) → AllByRecursion (λ row. selects selector row.0 ≡ false) rows → i < length positions → ⊥
no_position selector rows positions i are none lt = let empty = ap length (are ∙ none_selected selector rows none) in omega (arith, lt, empty)

-- lines that may be visited of the row at an index
abbrev pub IsAt : (Row → List (LabelSet × Line) → Type 0) → List Row → ℕ → List (LabelSet × Line) → Type 0
IsAt R rows position lines = (row : Row) × (slice_get rows position ≡ Some row) × R row lines

-- such lines of each index in turn were visited
pub record AreFrom {T : Type 0} (R : Row → List (LabelSet × Line) → Type 0) (visiting : T → LabelSet × Line → T) (rows : List Row) (positions : List ℕ) (before after : T) : Type 0 where
  pub lines : List (List (LabelSet × Line))
  pub each : AllZip (IsAt R rows) positions lines
  pub visited : after ≡ fold visiting before (flat_map (λ of_row. of_row) lines)

module _ {T : Type 0} (R : Row → List (LabelSet × Line) → Type 0) (visiting : T → LabelSet × Line → T) (rows : List Row) where
  -- one index more
  pub from_more : (positions : List ℕ) (i d : ℕ) (before taken now : T) → i < length positions → AreFrom R visiting rows (take i positions) before taken → (lines : List (LabelSet × Line)) × IsAt R rows (get_or positions i d) lines × (now ≡ fold visiting taken lines)
      → AreFrom R visiting rows (take (i + 1) positions) before now
  from_more positions i d before taken now lt was (lines, at, is) =
      subst (λ ps. AreFrom R visiting rows ps before now) (sym (take_more positions i d lt)) (record {
        lines = was.lines ++ lines ∷ [];
        each = AllZip-append (IsAt R rows) (take i positions) was.lines (get_or positions i d ∷ []) (lines ∷ []) was.each (at, tt);
        visited = is ∙ ap (λ t. fold visiting t lines) was.visited ∙ sym (fold-append visiting before (flat_map (λ l. l) was.lines) lines)
            ∙ ap (fold visiting before) (ap (λ l. flat_map (λ l. l) was.lines ++ l) (sym (append-nil lines)) ∙ sym (flat_map-append (λ l. l) was.lines (lines ∷ [])));
      })

-- what is visited of the selected rows is visited of all, where nothing is visited of the others
module _ (R : Row → List (LabelSet × Line) → Type 0) (selector : List Matcher) (none : (row : Row) → selects selector row.0 ≡ false → R row []) where
  abbrev pub Spread : List Row → List (List (LabelSet × Line)) → Type 0
  Spread rows lines = (all : List (List (LabelSet × Line))) × AllZip R rows all × (flat_map (λ l. l) all ≡ flat_map (λ l. l) lines)

  following : (row : Row) (rows : List Row) (positions : List ℕ) (lines : List (List (LabelSet × Line))) → AllZip (IsAt R (row ∷ rows)) (map suc positions) lines → AllZip (IsAt R rows) positions lines
  following row rows [] [] h = tt
  following row rows [] (l ∷ lines) h = absurd h
  following row rows (position ∷ positions) [] h = absurd h
  following row rows (position ∷ positions) (l ∷ lines) h = (h.0, following row rows positions lines h.1)

  pub spread : (rows : List Row) (lines : List (List (LabelSet × Line))) → AllZip (IsAt R rows) (selected selector (keys_of rows)) lines → Spread rows lines
  spread [] [] each = ([], tt, refl)
  spread [] (l ∷ lines) each = absurd each
  spread (row ∷ rows) lines each = by (selects selector row.0) refl lines each (spread rows)
    where
      positions : List ℕ
      positions = selected selector (keys_of rows)

      same : (other : Row) → Some row ≡ Some other → row ≡ other
      same other e = same_some row other e

      by : (b : Bool) → selects selector row.0 ≡ b → (lines : List (List (LabelSet × Line))) → AllZip (IsAt R (row ∷ rows)) (if b then 0 ∷ map suc positions else map suc positions) lines
          → ((lines : List (List (LabelSet × Line))) → AllZip (IsAt R rows) positions lines → Spread rows lines) → Spread (row ∷ rows) lines
      by true e [] each more = absurd each
      by true e (l ∷ lines) each more =
          let others = more lines (following row rows positions lines each.1) in
          (l ∷ others.0, (subst (λ r. R r l) (sym (same each.0.0 each.0.1)) each.0.2, others.1), ap (λ ls. l ++ ls) others.2)
      by false e lines each more =
          let others = more lines (following row rows positions lines each) in
          ([] ∷ others.0, (none row e, others.1), others.2)

-- the labels of the stream at an index
pub label_there : (rows : List Row) (i : ℕ) (stream : StreamView) → AllByRecursion IsOwn rows → slice_get (values_of rows) i ≡ Some stream → (i < length (keys_of rows)) × (get_or (keys_of rows) i stream.labels ≡ stream.labels)
label_there [] i stream own at = absurd (not_none stream at)
label_there (row ∷ rows) zero stream own at = (omega arith, sym own.0.labels ∙ ap (λ (s : StreamView). s.labels) (same_some row.1 stream at))
label_there (row ∷ rows) (suc i) stream own at = let others = label_there rows i stream own.1 at in (omega (arith, others.0), others.1)

-- a stream at an index of the selection is selected, and stands there under its labels
pub chosen_there : (selector : List Matcher) (rows : List Row) (positions : List ℕ) (i : ℕ) (stream : StreamView) → AllByRecursion IsOwn rows → positions ≡ selected selector (keys_of rows) → i < length positions → slice_get (values_of rows) (get_or positions i 0) ≡ Some stream
    → (slice_get rows (get_or positions i 0) ≡ Some (stream.labels, stream)) × (selects selector stream.labels ≡ true)
chosen_there selector rows positions i stream own are lt at =
    let row = with_key rows (get_or positions i 0) stream at in
    let labels = (at_row IsOwn rows (get_or positions i 0) (row.0, stream) own row.1).labels in
    let there = subst (λ l. slice_get rows (get_or positions i 0) ≡ Some (l, stream)) (sym labels) row.1 in
    let chosen = selected_there selector rows positions i 0 are lt in
    (there, ap (λ (r : Row). selects selector r.0) (same_some (stream.labels, stream) chosen.0 (sym there ∙ chosen.1)) ∙ chosen.2)

module _ {T : Type 0} (selector : List Matcher) (from to : ℕ) (visiting : T → LabelSet × Line → T) (rows : List Row) (positions : List ℕ) (before after : T) (are : positions ≡ selected selector (keys_of rows)) where
  -- over any store
  pub visited_at_all : AreFrom (AreOfRow selector from to) visiting rows positions before after → AreVisited visiting selector from to rows before after
  visited_at_all given =
      let all = spread (AreOfRow selector from to) selector (none_of_row selector from to) rows given.lines (subst (λ ps. AllZip (IsAt (AreOfRow selector from to) rows) ps given.lines) are given.each) in
      record { lines = all.0; each = all.1; visited = given.visited ∙ ap (fold visiting before) (sym all.2) }

  -- over an honest one
  abbrev IsVisitedOf : Row → List (LabelSet × Line) → Type 0
  IsVisitedOf row lines = lines ≡ visited_of selector from to row.0 row.1

  joined_visited : (rows : List Row) (all : List (List (LabelSet × Line))) → AllZip IsVisitedOf rows all → flat_map (λ l. l) all ≡ visited_by selector from to rows
  joined_visited [] [] h = refl
  joined_visited [] (l ∷ all) h = absurd h
  joined_visited (row ∷ rows) [] h = absurd h
  joined_visited (row ∷ rows) (l ∷ all) h = ap (λ ls. ls ++ flat_map (λ l. l) all) h.0 ∙ ap (λ ls. visited_of selector from to row.0 row.1 ++ ls) (joined_visited rows all h.1)

  pub right_at_all : AreFrom IsVisitedOf visiting rows positions before after → after ≡ fold visiting before (visited_by selector from to rows)
  right_at_all given =
      let all = spread IsVisitedOf selector (λ row e. ap (λ b. if b then visited_in_range from to (entries_of row.1) else []) (sym e)) rows given.lines (subst (λ ps. AllZip (IsAt IsVisitedOf rows) ps given.lines) are given.each) in
      given.visited ∙ ap (fold visiting before) (sym all.2 ∙ joined_visited rows all.0 all.1)

-- what is kept at an index, and what it is of
pub found_there : {A B : Type 0} (f : A → B) (xs : List A) (i : ℕ) (y : B) → option_map f (slice_get xs i) ≡ Some y → i < length xs
found_there f [] i y e = absurd (not_none y e)
found_there f (x ∷ xs) zero y e = omega arith
found_there f (x ∷ xs) (suc i) y e = omega (arith, found_there f xs i y e)

pub found_is : {A B : Type 0} (f : A → B) (xs : List A) (i : ℕ) (x : A) (y : B) → slice_get xs i ≡ Some x → option_map f (slice_get xs i) ≡ Some y → f x ≡ y
found_is f xs i x y at found = same_some (f x) y (ap (option_map f) (sym at) ∙ found)

pub kept_there : (labels : List LabelSet) (kept : List SelectionView) (i : ℕ) (s : SelectionView) → AreSelections labels kept → slice_get kept i ≡ Some s → IsSelection labels s
kept_there labels [] i s are at = absurd (not_none s at)
kept_there labels (one ∷ kept) zero s are at = subst (IsSelection labels) (same_some one s at) are.0
kept_there labels (one ∷ kept) (suc i) s are at = kept_there labels kept i s are.1 at

pub kept_set : (labels : List LabelSet) (kept : List SelectionView) (i : ℕ) (s : SelectionView) → AreSelections labels kept → IsSelection labels s → AreSelections labels (slice_set kept i s)
kept_set labels [] i s are is = tt
kept_set labels (one ∷ kept) zero s are is = (is, are.1)
kept_set labels (one ∷ kept) (suc i) s are is = (are.0, kept_set labels kept i s are.1 is)

pub set_there : {A : Type 0} (xs : List A) (i : ℕ) (x : A) → i < length xs → slice_get (slice_set xs i x) i ≡ Some x
set_there [] i x lt = absurd (omega (arith, lt))
set_there (one ∷ xs) zero x lt = refl
set_there (one ∷ xs) (suc i) x lt = set_there xs i x (omega (arith, lt))

-- where all streams were asked, all indices are there
pub all_positions : (labels : List LabelSet) (s : SelectionView) → IsSelection labels s → s.asked ≡ length labels → s.positions ≡ selected s.selector labels
all_positions labels s is all = is.positions ∙ ap (selected s.selector) (take_all s.asked labels (omega (arith, all)))
