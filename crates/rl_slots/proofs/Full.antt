-- How many entries there are where a window has no room for a change of theirs.
use Rattle.std.specs.Prelude.{◌≡◌, ℕ, suc, ◌+◌, ◌*◌, ◌≤◌, ◌<◌, nat_eq, nat_lt, true, false, cond, List, [], ◌∷◌, map, length, Option, None, Some, IfSome, option_to_list, slice_get, slice_index_or, refl}
use Rattle.std.specs.List.{AllByRecursion, sum_by}
use Rattle.std.proofs.Common.{sym, ap, subst, ◌∙◌, take, arith}
use Rattle.std.proofs.lemmas.List.Sums.{sum_by-append, sum_by-cons, sum_by_more_le}
use Rattle.std.proofs.lemmas.Option.{slice_get-get_or}
use Rattle.rl_labels.specs.declared.entry.Entry.{Entry}
use Rattle.rl_pipeline.specs.Lines.{StreamLine}
use Rattle.rl_aggregate.specs.InRange.{second}
use Rattle.rl_aggregate.specs.declared.volume.Volume.{Volume}
use Rattle.rl_windows.specs.Ranges.{element_for, elements_for, entry_elements}
use Rattle.rl_windows.specs.Windows.{count_of, is_needed, lines_of, StandsFor}
use Rattle.rl_windows.specs.declared.element.Element.{Element}
use Rattle.rl_windows.specs.declared.range.RangeCode.{RangeCode}
use Rattle.rl_windows.specs.laws.Alike.{count-filter}
use Rattle.rl_slots.specs.Slots.{changes_from, changes_in, changes_of, changes_of_all, line_of, outline, wanted, with_change, with_changes, with_element_at, AllStand, AreOfMost, Contents, IsFull, IsOfLine, SlotView, StandIn}
use Rattle.rl_slots.specs.laws.Alike.{at_index, total, total-append, total-cons}
use Rattle.rl_slots.specs.laws.Exact.{changed_at, changes_of_all-lines, eqb-self, line_at, of_both, own, put, range_there, IsLineAt}
use Rattle.rl_slots.specs.laws.Living.{most-outline}
use Rattle.rl_slots.specs.declared.change.Change.{Change}
use Rattle.rl_slots.specs.declared.range_window.RangeWindow.{RangeWindow}

-- how many lines elements have
abbrev lines_in : List Element → ℕ
lines_in elements = total (λ line. line.1.count) elements

-- LINES OF ENTRIES

-- what a line adds has at most one line, in front of no other
one_found : (timestamp : ℕ) (found : Option Element) → IfSome found (IsLineAt timestamp) → lines_in (put found []) ≤ 1
one_found timestamp None line = omega arith
one_found timestamp (Some e) line = omega (arith, total-cons (λ line. line.1.count) e [], line.1.0)

one_line : (code : RangeCode) (entry : Entry) → lines_in (entry_elements code entry) ≤ 1
one_line code entry = subst (λ es. lines_in es ≤ 1) (listed (element_for code (line_of entry) entry.timestamp)) (one_found entry.timestamp (element_for code (line_of entry) entry.timestamp) (line_at code (line_of entry) entry.timestamp entry.fits))
  where
    listed : (found : Option Element) → put found [] ≡ option_to_list found
    listed None = refl
    listed (Some e) = refl

-- so entries add at most as many lines as they are
few_lines : (code : RangeCode) (entries : List Entry) → lines_in (elements_for code entries) ≤ length entries
few_lines code [] = omega arith
few_lines code (entry ∷ entries) = omega (
  arith,
  total-append (λ line. line.1.count) (entry_elements code entry) (elements_for code entries),
  one_line code entry,
  few_lines code entries,
)

-- and a window wants at most one line of each
one_wanted : (it : RangeWindow) (entry : Entry) → lines_in (put (wanted (line_of entry) entry.timestamp it) []) ≤ 1
one_wanted it entry =
    let found = element_for it.code (line_of entry) entry.timestamp in
    elim (nat_lt it.window.moment (entry.timestamp + it.window.seconds * second)) as (λ b. lines_in (put (cond b found None) []) ≤ 1) [
      | true ↦ one_found entry.timestamp found (line_at it.code (line_of entry) entry.timestamp entry.fits)
      | false ↦ omega arith
    ]

-- and has at most the lines of what it stands for
held : (it : RangeWindow) (elements : List Element) → StandsFor it.window elements → count_of it.window.buckets ≤ lines_in elements
held it elements stands = omega (
  arith,
  ap (λ (v : Volume). v.count) (stands.1 (λ _. true)),
  count-filter (λ stamp. is_needed it.window.seconds it.window.moment stamp) (lines_of elements),
)

-- LINES OF CHANGES

module _ (s w : ℕ) where
  -- how many lines a change adds to one window
  abbrev added_by : Change → ℕ
  added_by change = cond (nat_eq s change.slot) (cond (nat_eq w change.window) change.element.volume.count 0) 0

  -- as many more lines there are with the change
  with_one : (change : Change) (contents : Contents) (code : RangeCode) → lines_in (with_change change contents s w code) ≡ added_by change + lines_in (contents s w code)
  with_one change contents code =
      let e = change.element in
      let before = contents s w code in
      elim (nat_eq s change.slot) as (λ b. lines_in (cond b (with_element_at change.window e (contents s)) (contents s) w code) ≡ cond b (cond (nat_eq w change.window) e.volume.count 0) 0 + lines_in before) [
        | true ↦ elim (nat_eq w change.window) as (λ b. lines_in (cond b (e ∷ before) before) ≡ cond b e.volume.count 0 + lines_in before) [ true ↦ total-cons (λ line. line.1.count) e before | false ↦ omega arith ]
        | false ↦ omega arith
      ]

  -- and with changes
  with_more : (changes : List Change) (contents : Contents) (code : RangeCode) → lines_in (with_changes changes contents s w code) ≡ sum_by added_by changes + lines_in (contents s w code)
  with_more [] contents code = omega arith
  with_more (change ∷ changes) contents code = omega (
    arith,
    with_more changes (with_change change contents) code,
    with_one change contents code,
    sum_by-cons added_by change changes,
  )

  -- the changes of entries add at most one line for each
  few_changes : (gained : List Entry) (slots : List SlotView) (slot : SlotView) (it : RangeWindow) → slice_get slots s ≡ Some slot → slice_get slot.windows w ≡ Some it → sum_by added_by (changes_of_all gained slots) ≤ length gained
  few_changes [] slots slot it there window = omega arith
  few_changes (entry ∷ gained) slots slot it there window =
      let own = changes_of (line_of entry) entry.timestamp slots in
      omega (
        arith,
        sum_by-append added_by own (changes_of_all gained slots),
        with_more own (λ _ _ _. []) it.code,
        ap lines_in (changed_at (line_of entry) entry.timestamp slots (λ _ _ _. []) s w slot it it.code there window),
        one_wanted it entry,
        few_changes gained slots slot it there window,
      )

-- WHERE CHANGES ARE

-- what holds at the indices of each window holds at those of each change
module _ (P : (slot window : ℕ) → Type 0) where
  abbrev HoldsAt : Change → Type 0
  HoldsAt change = P change.slot change.window

  module _ (line : StreamLine) (timestamp : ℕ) where
    -- the change of one window
    at_own : (slot window : ℕ) (it : RangeWindow) → P slot window → AllByRecursion HoldsAt (own line timestamp slot window it)
    at_own slot window it holds =
        elim (wanted line timestamp it) as (λ found. AllByRecursion HoldsAt (map (λ (element : Element). record { slot = slot; window = window; element = element }) (option_to_list found))) [
          | None ↦ tt
          | Some e ↦ (holds, tt)
        ]

    -- those of all windows of a slot
    at_windows : (slot first : ℕ) (windows : List RangeWindow) → ((k : ℕ) (it : RangeWindow) → slice_get windows k ≡ Some it → P slot (first + k)) → AllByRecursion HoldsAt (changes_in line timestamp slot first windows)
    at_windows slot first [] holds = tt
    at_windows slot first (it ∷ windows) holds =
        let zero_more : first + 0 ≡ first = omega arith in
        of_both HoldsAt (own line timestamp slot first it) (changes_in line timestamp slot (suc first) windows) (at_own slot first it (subst (P slot) zero_more (holds 0 it refl))) (
        at_windows slot (suc first) windows (λ k it there. let later : first + suc k ≡ suc first + k = omega arith in subst (P slot) later (holds (suc k) it there))
        )

    -- those of all slots
    at_slots : (first : ℕ) (slots : List SlotView) → ((k w : ℕ) (slot : SlotView) (it : RangeWindow) → slice_get slots k ≡ Some slot → slice_get slot.windows w ≡ Some it → P (first + k) w) → AllByRecursion HoldsAt (changes_from line timestamp first slots)
    at_slots first [] holds = tt
    at_slots first (slot ∷ slots) holds =
        let zero_more : first + 0 ≡ first = omega arith in
        of_both HoldsAt (changes_in line timestamp first 0 slot.windows) (changes_from line timestamp (suc first) slots) (
        at_windows first 0 slot.windows (λ w it window. let same : w ≡ 0 + w = omega arith in subst (P first) same (subst (λ s. P s w) zero_more (holds 0 w slot it refl window)))
        ) (
        at_slots (suc first) slots (λ k w slot it there window. let later : first + suc k ≡ suc first + k = omega arith in subst (λ s. P s w) later (holds (suc k) w slot it there window))
        )

  -- and those of all entries
  at_all : (gained : List Entry) (slots : List SlotView) → ((s w : ℕ) (slot : SlotView) (it : RangeWindow) → slice_get slots s ≡ Some slot → slice_get slot.windows w ≡ Some it → P s w) → AllByRecursion HoldsAt (changes_of_all gained slots)
  at_all [] slots holds = tt
  at_all (entry ∷ gained) slots holds =
      of_both HoldsAt (changes_of (line_of entry) entry.timestamp slots) (changes_of_all gained slots) (
      at_slots (line_of entry) entry.timestamp 0 slots (λ k w slot it there window. let same : k ≡ 0 + k = omega arith in subst (λ s. P s w) same (holds k w slot it there window))
      ) (at_all gained slots holds)

-- there is a window at these indices
abbrev IsThere : List SlotView → (slot window : ℕ) → Type 0
IsThere slots s w = (slot : SlotView) × (slice_get slots s ≡ Some slot) × ((it : RangeWindow) × (slice_get slot.windows w ≡ Some it))

module _ (gained entries : List Entry) (slots : List SlotView) (n : ℕ) (change : Change) where
  -- what windows stand for, with the changes of entries before one
  abbrev so_far : Contents
  so_far = with_changes (take n (changes_of_all gained slots)) (λ _ _ code. elements_for code entries)

  -- the window of the change has fewer lines than these entries and those that were there are
  few_at : (slot : SlotView) (it own_it : RangeWindow) → slice_get slots change.slot ≡ Some slot → slice_get slot.windows change.window ≡ Some it
      → n < length (changes_of_all gained slots) → change ≡ slice_index_or (changes_of_all gained slots) n change → IsOfLine change.element.volume
      → StandsFor own_it.window (so_far change.slot change.window own_it.code) → count_of own_it.window.buckets < length gained + length entries
  few_at slot it own_it there window less is line stands =
      let s = change.slot in
      let w = change.window in
      let own_count : added_by s w change ≡ 1 = ap (λ b. cond b (cond (nat_eq w w) change.element.volume.count 0) 0) (eqb-self s) ∙ ap (λ b. cond b change.element.volume.count 0) (eqb-self w) ∙ line.0 in
      omega (
        arith,
        held own_it (so_far s w own_it.code) stands,
        with_more s w (take n (changes_of_all gained slots)) (λ _ _ code. elements_for code entries) own_it.code,
        sum_by_more_le (added_by s w) (changes_of_all gained slots) n change less,
        ap (added_by s w) is,
        own_count,
        few_changes s w gained slots slot it there window,
        few_lines own_it.code entries,
      )

  module _ (others : List SlotView) (most : ℕ) (same : map outline others ≡ map outline slots) (of_most : AreOfMost most slots) (less : n < length (changes_of_all gained slots)) (is : change ≡ slice_index_or (changes_of_all gained slots) n change) where
    -- where the change is
    change_there : slice_get (changes_of_all gained slots) n ≡ Some change
    change_there = slice_get-get_or (changes_of_all gained slots) n change less ∙ ap Some (sym is)

    -- so where that window is full, these entries are more than it may have lines
    at_window : (slot own_slot : SlotView) (it own_it : RangeWindow) → slice_get slots change.slot ≡ Some slot → slice_get slot.windows change.window ≡ Some it → slice_get others change.slot ≡ Some own_slot → slice_get own_slot.windows change.window ≡ Some own_it
        → AllStand others so_far → IfSome (slice_get others change.slot) (λ slot. IfSome (slice_get slot.windows change.window) IsFull) → most < length gained + length entries
    at_window slot own_slot it own_it there window own_there own_window stand full =
        let is_full : IsFull own_it = subst (λ o. IfSome o IsFull) own_window (subst (λ o. IfSome o (λ slot. IfSome (slice_get slot.windows change.window) IsFull)) own_there full) in
        let each_most = at_index (λ (slot : SlotView). AllByRecursion (λ it. it.window.most ≡ most) slot.windows) others change.slot own_slot own_there (most-outline slots others same most of_most) in
        let is_most = at_index (λ (it : RangeWindow). it.window.most ≡ most) own_slot.windows change.window own_it own_window each_most in
        let in_slot : StandIn own_slot.windows (so_far change.slot) = subst (λ o. IfSome o (λ slot. StandIn slot.windows (so_far change.slot))) own_there (stand change.slot) in
        let stands = subst (λ o. IfSome o (λ it. StandsFor it.window (so_far change.slot change.window it.code))) own_window (in_slot change.window) in
        let line = at_index (λ (c : Change). IsOfLine c.element.volume) (changes_of_all gained slots) n change change_there (changes_of_all-lines gained slots) in
        omega (arith, is_full, is_most, few_at slot it own_it there window less is line stands)

-- where the changes of entries before one went in and its window is full, these entries and those that the windows stood for are more
-- than a window may have lines
pub full-many : (gained entries : List Entry) (slots others : List SlotView) (n : ℕ) (change : Change) (most : ℕ) → map outline others ≡ map outline slots → AreOfMost most slots
    → n < length (changes_of_all gained slots) → change ≡ slice_index_or (changes_of_all gained slots) n change
    → AllStand others (with_changes (take n (changes_of_all gained slots)) (λ _ _ code. elements_for code entries))
    → IfSome (slice_get others change.slot) (λ slot. IfSome (slice_get slot.windows change.window) IsFull) → most < length gained + length entries
full-many gained entries slots others n change most same of_most less is stand full =
    let each = at_all (IsThere slots) gained slots (λ s w slot it there window. (slot, there, (it, window))) in
    let there : IsThere slots change.slot change.window = at_index (λ (c : Change). IsThere slots c.slot c.window) (changes_of_all gained slots) n change (change_there gained entries slots n change others most same of_most less is) each in
    let here = range_there others slots change.slot change.window there.0 there.2.0 (sym same) there.1 there.2.1 in
    at_window gained entries slots n change others most same of_most less is there.0 here.0 there.2.0 here.2.0 there.1 there.2.1 here.1 here.2.1 stand full
