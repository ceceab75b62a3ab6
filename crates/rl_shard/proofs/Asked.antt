-- What windows of a slot have for its terms, and when a slot answers.
use Rattle.std.proofs.Common.{◌≡◌, ◌≤◌, ◌<◌, ℕ, zero, suc, ◌+◌, ◌==◌, true, false, List, [], ◌∷◌, length, map, get_or, slice_get, Option, None, Some, IfSome, is_some, refl, sym, subst, ◌∙◌, true≢false, arith}
use Rattle.std.specs.Prelude.{IfNone}
use Rattle.std.specs.Bool.{Decides}
use Rattle.std.specs.FinMap.{keys}
use Rattle.std.specs.List.{position, sum_by, AllByRecursion}
use Rattle.std.specs.Option.{unwrap_or}
use Rattle.std.specs.Prelude.{if◌then◌else◌}
use Rattle.std.proofs.lemmas.Bool.{eqb-true, eq-eqb}
use Rattle.std.proofs.lemmas.List.Quantifiers.{position-Some}
use Rattle.std.proofs.lemmas.Option.{none-some, same_Some}
use Rattle.rl_labels.specs.Quantity.{greatest_moment}
use Rattle.rl_labels.specs.declared.entry.Entry.{Entry}
use Rattle.rl_pipeline.specs.Metering.{Metered}
use Rattle.rl_query.specs.declared.query.Term.{Term}
use Rattle.rl_aggregate.specs.Partials.{partial}
use Rattle.rl_aggregate.specs.declared.partial.Partial.{Partial}
use Rattle.rl_deletes.specs.Deletes.{RequestsView, covered}
use Rattle.rl_windows.specs.Windows.{in_range}
use Rattle.rl_windows.specs.laws.Ranges.{partial-timely}
use Rattle.rl_windows.specs.declared.element.Element.{Element}
use Rattle.rl_slots.specs.Slots.{collected_in, key_of, term_key, visits_for, AreExactIn, AreSums, HasVisits, IsLive, IsLiveIn, IsWindowOf, SlotView, StandIn}
use Rattle.rl_slots.specs.laws.Living.{collected-live}
use Rattle.rl_slots.specs.laws.Visits.{visits-timely}
use Rattle.rl_slots.specs.declared.range_window.RangeWindow.{RangeWindow}
use Rattle.rl_streams.specs.StreamsState.{StreamsView}
use Rattle.rl_shard.specs.Collecting.{shown, AreReadFor, IsRead}
use Rattle.rl_shard.specs.Live.{windowed, IsBuiltFrom}

-- BUILT

module _ (streams : StreamsView) (requests : RequestsView) (t : ℕ) where
  -- the elements that the window at an index was built of
  abbrev pub elements_at : (windows : List RangeWindow) → AllByRecursion (IsBuiltFrom streams requests t) windows → (index : ℕ) → List Element
  elements_at [] built index = []
  elements_at (it ∷ windows) built zero = built.0.elements
  elements_at (it ∷ windows) built (suc index) = elements_at windows built.1 index

  pub stand_at : (windows : List RangeWindow) (built : AllByRecursion (IsBuiltFrom streams requests t) windows) → StandIn windows (λ index _. elements_at windows built index)
  stand_at [] built index = tt
  stand_at (it ∷ windows) built zero = built.0.stands
  stand_at (it ∷ windows) built (suc index) = stand_at windows built.1 index

  pub exact_at : (windows : List RangeWindow) → AllByRecursion (IsBuiltFrom streams requests t) windows → streams.seen.honest ≡ true → AreExactIn windows (windowed streams requests)
  exact_at [] built honest index = tt
  exact_at (it ∷ windows) built honest zero = built.0.exact honest
  exact_at (it ∷ windows) built honest (suc index) = exact_at windows built.1 honest index

  pub most_at : (windows : List RangeWindow) → AllByRecursion (IsBuiltFrom streams requests t) windows → AllByRecursion (λ (it : RangeWindow). it.window.most ≡ streams.limits.entries) windows
  most_at [] built = tt
  most_at (it ∷ windows) built = (built.0.most, most_at windows built.1)

  -- what a term has of the window of its range was read
  read_at : (windows : List RangeWindow) (built : AllByRecursion (IsBuiltFrom streams requests t) windows) (index : ℕ) (term : Term) (found : Partial) → IsWindowOf windows term index → found ≡ in_range term.range.seconds t (elements_at windows built index) → IsRead streams.rows requests term.range t found
  read_at [] built index term found there is = absurd (none-some (term_key term) there)
  read_at (it ∷ windows) built zero term found there is = built.0.reads term found (sym (same_Some (key_of it) (term_key term) there)) is
  read_at (it ∷ windows) built (suc index) term found there is = read_at windows built.1 index term found there is

  pub read_for : (windows : List RangeWindow) (built : AllByRecursion (IsBuiltFrom streams requests t) windows) (terms : List Term) (partials : List Partial) → AreSums windows t (λ index _. elements_at windows built index) terms partials → AreReadFor streams requests terms t partials
  read_for windows built [] [] sums = tt
  read_for windows built [] (found ∷ partials) sums = absurd sums
  read_for windows built (term ∷ terms) [] sums = absurd sums
  read_for windows built (term ∷ terms) (found ∷ partials) sums = (read_at windows built sums.0.0 term found sums.0.1 sums.0.2, read_for windows built terms partials sums.1)

-- what terms have of entries at moments that there are is what they have of all that are shown
pub partials_of_all : (streams : StreamsView) (requests : RequestsView) (terms : List Term) (t : ℕ) → t ≤ greatest_moment → map (λ (term : Term). partial (windowed streams requests) term t) terms ≡ map (λ (term : Term). partial (shown streams requests) term t) terms
partials_of_all streams requests terms t moments = λ i. map (λ (term : Term). partial-timely (covered requests) (keys streams.held) term t moments i) terms

-- and so the timestamps that come due or leave
pub visits_of_all : (streams : StreamsView) (requests : RequestsView) (terms : List Term) (since t : ℕ) → t ≤ greatest_moment → sum_by (visits_for (windowed streams requests) since t) terms ≡ sum_by (visits_for (shown streams requests) since t) terms
visits_of_all streams requests terms since t moments = λ i. sum_by (λ (term : Term). visits-timely (covered requests) (keys streams.held) since t term moments i) terms

-- LIVE

-- a slot that answers stands at its index
pub found_at : (terms : List Term) (t : ℕ) (slots : List SlotView) (index : ℕ) → index < length slots → IfSome (slice_get slots index) (IsLive terms t) → (slot : SlotView) × (slice_get slots index ≡ Some slot) × IsLive terms t slot
found_at terms t [] index within live = absurd (omega (arith, within))
found_at terms t (slot ∷ slots) zero within live = (slot, refl, live)
found_at terms t (slot ∷ slots) (suc index) within live = found_at terms t slots index (omega (arith, within)) live

-- where the slot of a number is, it answers
abbrev pub live_from : (number : ℕ) (terms : List Term) (t : ℕ) (slots : List SlotView) (index : ℕ) → position (λ (slot : SlotView). slot.number == number) slots ≡ Some index → index < length slots → IfSome (slice_get slots index) (IsLive terms t) → IsLiveIn number terms t slots
live_from number terms t slots index at within live = let found = found_at terms t slots index within live in record { index = index; at = at; slot = found.0; there = found.1; live = found.2 }

-- and from then on
pub live_later : (number : ℕ) (terms : List Term) (t u : ℕ) (slots : List SlotView) → t ≤ u → IsLiveIn number terms t slots → IsLiveIn number terms u slots
live_later number terms t u slots later live = record { index = live.index; at = live.at; slot = live.slot; there = live.there; live = (live.live.0, let reached = live.live.1 in omega (arith, reached, later)) }

-- slots of two numbers stand apart
pub apart_at : (number other : ℕ) (slots : List SlotView) (index : ℕ) → (other ≡ number → ⊥) → position (λ (slot : SlotView). slot.number == number) slots ≡ Some index → position (λ (slot : SlotView). slot.number == other) slots ≡ Some index → ⊥
apart_at number other [] index apart at is = none-some index at
apart_at number other (slot ∷ slots) index apart at is =
    let own = (position-Some (λ (slot : SlotView). slot.number == number) (slot ∷ slots) index slot at).1 in
    let others = (position-Some (λ (slot : SlotView). slot.number == other) (slot ∷ slots) index slot is).1 in
    apart (sym (eqb-true (get_or (slot ∷ slots) index slot).number other others) ∙ eqb-true (get_or (slot ∷ slots) index slot).number number own)

-- whether one was found says whether it answers
pub live_decides : (number : ℕ) (terms : List Term) (t : ℕ) (slots : List SlotView) (found : Option ℕ) → IfSome found (λ index. (index < length slots) × (position (λ (slot : SlotView). slot.number == number) slots ≡ Some index) × IfSome (slice_get slots index) (IsLive terms t))
    → IfNone found (IsLiveIn number terms t slots → ⊥) → Decides (is_some found) (IsLiveIn number terms t slots)
live_decides number terms t slots None some none = (λ is. absurd (true≢false (sym is)), λ live. absurd (none live))
live_decides number terms t slots (Some index) some none = (λ _. live_from number terms t slots index some.1 some.0 some.2, λ _. refl)

-- the moment at which the slot of each number was answered last, after one was answered
pub collected_at : (number index t : ℕ) (slots others : List SlotView) → position (λ (slot : SlotView). slot.number == number) slots ≡ Some index → ((n : ℕ) → position (λ (slot : SlotView). slot.number == n) slots ≡ Some index → collected_in n others ≡ Some t)
    → ((n : ℕ) → (position (λ (slot : SlotView). slot.number == n) slots ≡ Some index → ⊥) → collected_in n others ≡ collected_in n slots) → (other : ℕ) → collected_in other others ≡ (if number == other then Some t else collected_in other slots)
collected_at number index t slots others at own rest other = elim (number == other) as (λ b. (number == other) ≡ b → collected_in other others ≡ (if b then Some t else collected_in other slots)) [
  | true ↦ λ is. own other (subst (λ n. position (λ (slot : SlotView). slot.number == n) slots ≡ Some index) (eqb-true number other is) at)
  | false ↦ λ is. rest other (λ there. apart_at number other slots index (λ same. true≢false (sym (eq-eqb number other (sym same)) ∙ is)) at there)
] refl

-- what a live slot visits, by the terms that it was asked
pub visits_live : (number : ℕ) (terms : List Term) (t : ℕ) (slots : List SlotView) (index : ℕ) (entries : List Entry) (before after : Metered) → position (λ (slot : SlotView). slot.number == number) slots ≡ Some index → index < length slots → IfSome (slice_get slots index) (IsLive terms t)
    → IfSome (slice_get slots index) (λ slot. HasVisits (sum_by (visits_for entries slot.collected t) slot.terms) before after) → after.visits ≤ before.visits + sum_by (visits_for entries (unwrap_or (collected_in number slots) 0) t) terms
visits_live number terms t slots index entries before after at within live visits =
    let found = found_at terms t slots index within live in
    let has = subst (λ o. IfSome o (λ (slot : SlotView). HasVisits (sum_by (visits_for entries slot.collected t) slot.terms) before after)) found.1 visits in
    let collected = collected-live number terms t slots (live_from number terms t slots index at within live) in
    subst (λ o. after.visits ≤ before.visits + sum_by (visits_for entries (unwrap_or o 0) t) terms) (sym collected) (subst (λ ts. after.visits ≤ before.visits + sum_by (visits_for entries found.0.collected t) ts) found.2.0 has.1)
