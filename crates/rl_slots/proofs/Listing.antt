-- What a line changes, window by window and slot by slot, and where its windows are.
use Rattle.std.proofs.Common.{◌≡◌, ℕ, suc, ◌+◌, ◌*◌, ◌<◌, ◌≤◌, Bool, true, false, cond, List, [], ◌∷◌, ◌++◌, take, length, map, get_or, Option, Some, None, refl, sym, ap, ◌∙◌, append_assoc, append-nil, arith}
use Rattle.std.specs.Prelude.{nat_lt, option_to_list, slice_get}
use Rattle.std.specs.List.{flat_map}
use Rattle.std.proofs.lemmas.List.{length-append, length-take-le, take_more}
use Rattle.std.proofs.lemmas.List.Concat.{flat_map-append}
use Rattle.std.proofs.lemmas.List.Sums.{sum_by_more}
use Rattle.rl_labels.specs.LabelSet.{LabelSet}
use Rattle.rl_labels.specs.Selects.{selects}
use Rattle.rl_pipeline.specs.Lines.{StreamLine}
use Rattle.rl_aggregate.specs.InRange.{second}
use Rattle.rl_windows.specs.Ranges.{line_element}
use Rattle.rl_windows.specs.declared.element.Element.{Element}
use Rattle.rl_slots.specs.Slots.{changes_at, changes_from, changes_in, changes_of, changes_there, selecting_from, selecting_in, term_count, wanted, window_at, window_in, with_change, with_changes, Contents, SlotView}
use Rattle.rl_slots.specs.laws.Exact.{own, with_changes-append}
use Rattle.rl_slots.specs.declared.change.Change.{Change}
use Rattle.rl_slots.specs.declared.window_index.WindowIndex.{WindowIndex}
use Rattle.rl_slots.specs.declared.range_window.RangeWindow.{RangeWindow}

-- INDICES

module _ (labels : LabelSet) where
  -- the index of a window that selects the stream, and none of another
  abbrev pub index_if : (slot window : ℕ) → RangeWindow → List WindowIndex
  index_if slot window it = cond (selects it.code.selector labels) (record { slot = slot; window = window } ∷ []) []

  selecting_in-append : (slot first : ℕ) (xs ys : List RangeWindow) → selecting_in labels slot first (xs ++ ys) ≡ selecting_in labels slot first xs ++ selecting_in labels slot (first + length xs) ys
  selecting_in-append slot first [] ys = ap (λ n. selecting_in labels slot n ys) (omega arith)
  selecting_in-append slot first (x ∷ xs) ys =
      ap (λ rest. index_if slot first x ++ rest) (selecting_in-append slot (suc first) xs ys ∙ ap (λ n. selecting_in labels slot (suc first) xs ++ selecting_in labels slot n ys) (omega arith))
      ∙ sym (append_assoc (index_if slot first x) (selecting_in labels slot (suc first) xs) (selecting_in labels slot (first + length (x ∷ xs)) ys))

  selecting_from-append : (first : ℕ) (xs ys : List SlotView) → selecting_from labels first (xs ++ ys) ≡ selecting_from labels first xs ++ selecting_from labels (first + length xs) ys
  selecting_from-append first [] ys = ap (λ n. selecting_from labels n ys) (omega arith)
  selecting_from-append first (x ∷ xs) ys =
      ap (λ rest. selecting_in labels first 0 x.windows ++ rest) (selecting_from-append (suc first) xs ys ∙ ap (λ n. selecting_from labels (suc first) xs ++ selecting_from labels n ys) (omega arith))
      ∙ sym (append_assoc (selecting_in labels first 0 x.windows) (selecting_from labels (suc first) xs) (selecting_from labels (first + length (x ∷ xs)) ys))

  -- one window more
  pub one_window : (slot n : ℕ) (windows : List RangeWindow) (it : RangeWindow) (answer : Bool) → n < length windows → it ≡ get_or windows n it → answer ≡ selects it.code.selector labels
      → selecting_in labels slot 0 (take (n + 1) windows) ≡ selecting_in labels slot 0 (take n windows) ++ cond answer (record { slot = slot; window = n } ∷ []) []
  one_window slot n windows it answer less there is =
      ap (selecting_in labels slot 0) (take_more windows n it less ∙ ap (λ x. take n windows ++ x ∷ []) (sym there))
      ∙ selecting_in-append slot 0 (take n windows) (it ∷ [])
      ∙ ap (λ m. selecting_in labels slot 0 (take n windows) ++ selecting_in labels slot m (it ∷ [])) (omega (arith, length-take-le n windows (omega (arith, less))))
      ∙ ap (λ rest. selecting_in labels slot 0 (take n windows) ++ rest) (append-nil (index_if slot n it) ∙ ap (λ b. cond b (record { slot = slot; window = n } ∷ []) []) (sym is))

  -- one slot more
  pub one_slot : (n : ℕ) (slots : List SlotView) (slot : SlotView) → n < length slots → slot ≡ get_or slots n slot
      → selecting_from labels 0 (take (n + 1) slots) ≡ selecting_from labels 0 (take n slots) ++ selecting_in labels n 0 slot.windows
  one_slot n slots slot less there =
      ap (selecting_from labels 0) (take_more slots n slot less ∙ ap (λ x. take n slots ++ x ∷ []) (sym there))
      ∙ selecting_from-append 0 (take n slots) (slot ∷ [])
      ∙ ap (λ m. selecting_from labels 0 (take n slots) ++ selecting_from labels m (slot ∷ [])) (omega (arith, length-take-le n slots (omega (arith, less))))
      ∙ ap (λ rest. selecting_from labels 0 (take n slots) ++ rest) (append-nil (selecting_in labels n 0 slot.windows))

  -- there are no more indices than windows
  pub indices_few : (slot first : ℕ) (windows : List RangeWindow) → length (selecting_in labels slot first windows) ≤ length windows
  indices_few slot first [] = omega arith
  indices_few slot first (it ∷ windows) = omega (arith, length-append (index_if slot first it) (selecting_in labels slot (suc first) windows), one (selects it.code.selector labels), indices_few slot (suc first) windows)
    where
      one : (b : Bool) → length {A = WindowIndex} (cond b (record { slot = slot; window = first } ∷ []) []) ≤ 1
      one true = omega arith
      one false = omega arith

-- what a line changes at one index more
pub one_index_more : (line : StreamLine) (timestamp : ℕ) (slots : List SlotView) (n : ℕ) (indices : List WindowIndex) (other : WindowIndex) → n < length indices
    → changes_at line timestamp slots (take (n + 1) indices) ≡ changes_at line timestamp slots (take n indices) ++ changes_there line timestamp (get_or indices n other) (window_at slots (get_or indices n other))
one_index_more line timestamp slots n indices other less =
    let index = get_or indices n other in
    ap (changes_at line timestamp slots) (take_more indices n other less)
    ∙ flat_map-append (λ (p : WindowIndex). changes_there line timestamp p (window_at slots p)) (take n indices) (index ∷ [])
    ∙ ap (λ rest. changes_at line timestamp slots (take n indices) ++ rest) (append-nil (changes_there line timestamp index (window_at slots index)))

-- the terms of one slot more
pub count_more : (n : ℕ) (slots : List SlotView) (slot : SlotView) → n < length slots → slot ≡ get_or slots n slot → term_count (take (n + 1) slots) ≡ term_count (take n slots) + length slot.terms
count_more n slots slot less there =
    sum_by_more (λ (s : SlotView). length s.terms) slots n slot less ∙ ap (λ (s : SlotView). term_count (take n slots) + length s.terms) (sym there)

-- CHANGES

-- a window that does not select the stream wants nothing of its lines
not_wanted : (line : StreamLine) (timestamp : ℕ) (it : RangeWindow) → selects it.code.selector line.labels ≡ false → wanted line timestamp it ≡ None
not_wanted line timestamp it not =
    ap (λ b. cond needs (cond b (line_element it.code.pipeline line timestamp) None) None) not ∙ none needs
  where
    needs : Bool
    needs = nat_lt it.window.moment (timestamp + it.window.seconds * second)

    none : (b : Bool) → cond {A = Option Element} b None None ≡ None
    none true = refl
    none false = refl

module _ (line : StreamLine) (timestamp : ℕ) (slots : List SlotView) where
  abbrev here : WindowIndex → List Change
  here index = changes_there line timestamp index (window_at slots index)

  one_index : (slot window : ℕ) (it : RangeWindow) → window_at slots (record { slot = slot; window = window }) ≡ Some it → flat_map here (index_if line.labels slot window it) ≡ own line timestamp slot window it
  one_index slot window it there = by (selects it.code.selector line.labels) refl
    where
      index : WindowIndex
      index = record { slot = slot; window = window }

      by : (b : Bool) → selects it.code.selector line.labels ≡ b → flat_map here (cond b (index ∷ []) []) ≡ own line timestamp slot window it
      by true is = append-nil (here index) ∙ ap (changes_there line timestamp index) there
      by false is = ap (λ found. map (λ (element : Element). record { slot = slot; window = window; element = element }) (option_to_list found)) (sym (not_wanted line timestamp it is))

  of_windows : (slot first : ℕ) (windows : List RangeWindow) → ((i : ℕ) → window_at slots (record { slot = slot; window = first + i }) ≡ slice_get windows i)
      → flat_map here (selecting_in line.labels slot first windows) ≡ changes_in line timestamp slot first windows
  of_windows slot first [] there = refl
  of_windows slot first (it ∷ windows) there =
      flat_map-append here (index_if line.labels slot first it) (selecting_in line.labels slot (suc first) windows)
      ∙ ap (λ xs. xs ++ flat_map here (selecting_in line.labels slot (suc first) windows)) (one_index slot first it (ap (λ n. window_at slots (record { slot = slot; window = n })) (omega arith) ∙ there 0))
      ∙ ap (λ rest. own line timestamp slot first it ++ rest) (of_windows slot (suc first) windows (λ i. ap (λ n. window_at slots (record { slot = slot; window = n })) (omega arith) ∙ there (suc i)))

  of_slots : (first : ℕ) (rest : List SlotView) → ((i : ℕ) → slice_get slots (first + i) ≡ slice_get rest i) → flat_map here (selecting_from line.labels first rest) ≡ changes_from line timestamp first rest
  of_slots first [] there = refl
  of_slots first (slot ∷ rest) there =
      flat_map-append here (selecting_in line.labels first 0 slot.windows) (selecting_from line.labels (suc first) rest)
      ∙ ap (λ xs. xs ++ flat_map here (selecting_from line.labels (suc first) rest)) (of_windows first 0 slot.windows (λ i. ap (λ n. window_in (slice_get slots first) n) (omega arith) ∙ ap (λ (o : Option SlotView). window_in o i) own_slot))
      ∙ ap (λ xs. changes_in line timestamp first 0 slot.windows ++ xs) (of_slots (suc first) rest (λ i. ap (slice_get slots) (omega arith) ∙ there (suc i)))
    where
      own_slot : slice_get slots first ≡ Some slot
      own_slot = ap (slice_get slots) (omega arith) ∙ there 0

  -- the windows that select the stream of a line are all that the line changes
  pub all_changes : changes_at line timestamp slots (selecting_from line.labels 0 slots) ≡ changes_of line timestamp slots
  all_changes = of_slots 0 slots (λ i. ap (slice_get slots) (omega arith))

-- one change more
pub one_change : (n : ℕ) (changes : List Change) (change : Change) (contents : Contents) → n < length changes → change ≡ get_or changes n change → with_changes (take (n + 1) changes) contents ≡ with_change change (with_changes (take n changes) contents)
one_change n changes change contents less there =
    ap (λ cs. with_changes cs contents) (take_more changes n change less ∙ ap (λ x. take n changes ++ x ∷ []) (sym there))
    ∙ with_changes-append (take n changes) (change ∷ []) contents
