-- Windows that are asked what their ranges have.
use Rattle.std.proofs.Common.{◌≡◌, ℕ, ◌<◌, ◌≤◌, List, [], ◌∷◌, slice_index_or, map, length, Some, refl, sym, ap, subst, ◌∙◌, arith}
use Rattle.std.specs.Prelude.{slice_get}
use Rattle.std.specs.List.{AllByRecursion, AllZip}
use Rattle.std.specs.Option.{IfSome, option_map}
use Rattle.std.proofs.lemmas.List.{length-map}
use Rattle.std.proofs.lemmas.Option.{same_Some, slice_get-get_or, slice_get-map, slice_get_within}
use Rattle.rl_labels.specs.declared.entry.Entry.{Entry}
use Rattle.rl_query.specs.declared.query.Term.{Term}
use Rattle.rl_aggregate.specs.Partials.{partial}
use Rattle.rl_aggregate.specs.declared.partial.Partial.{Partial}
use Rattle.rl_windows.specs.Ranges.{code_of, elements_for}
use Rattle.rl_windows.specs.Windows.{in_range, StandsFor}
use Rattle.rl_windows.specs.declared.element.Element.{Element}
use Rattle.rl_windows.specs.declared.range.RangeCode.{RangeCode}
use Rattle.rl_slots.specs.Slots.{key_of, term_key, AreExactIn, AreSums, ContentsIn, IsPartialAt, IsSumAt, IsWindowOf, StandIn}
use Rattle.rl_slots.specs.declared.range_window.RangeWindow.{RangeWindow}
use Rattle.rl_slots.proofs.Setting.{index_holds}

-- the window at an index of a list
pub found : (old windows : List RangeWindow) (indices : List ℕ) (i : ℕ) (d : RangeWindow) → i < length indices → AllByRecursion (λ index. index < length old) indices → map key_of windows ≡ map key_of old
    → slice_get windows (slice_index_or indices i 0) ≡ Some (slice_index_or windows (slice_index_or indices i 0) d)
found old windows indices i d less within same =
    slice_get-get_or windows (slice_index_or indices i 0) d (omega (arith, index_holds (λ index. index < length old) indices i less within, length-map windows key_of, ap length same, length-map old key_of))

-- what a window that stands for entries gives is what its range has of them
pub shows_at : (old windows : List RangeWindow) (entries : List Entry) (t k : ℕ) (x : RangeWindow) (shown : Partial) → slice_get windows k ≡ Some x → map key_of windows ≡ map key_of old → AreExactIn windows entries
    → ((term : Term) (entries : List Entry) → term.range.seconds ≡ x.window.seconds → StandsFor x.window (elements_for (code_of term) entries) → shown ≡ partial entries term t) → IsPartialAt old entries t k shown
shows_at old windows entries t k x shown there same exact shows term is =
    let key : key_of x ≡ term_key term = same_Some (key_of x) (term_key term) (sym (slice_get-map key_of windows k ∙ ap (option_map key_of) there) ∙ ap (λ keys. slice_get keys k) same ∙ is) in
    let stands : StandsFor x.window (elements_for x.code entries) = subst (λ o. IfSome o (λ it. StandsFor it.window (elements_for it.code entries))) there (exact k) in
    shows term entries (sym (ap (λ (p : RangeCode × ℕ). p.1) key)) (subst (λ c. StandsFor x.window (elements_for c entries)) (ap (λ (p : RangeCode × ℕ). p.0) key) stands)

-- and what one that stands for elements gives is what its range has of these
pub sums_at : (old windows : List RangeWindow) (contents : ContentsIn) (t k : ℕ) (x : RangeWindow) (shown : Partial) → slice_get windows k ≡ Some x → map key_of windows ≡ map key_of old → StandIn windows contents
    → ((es : List Element) → StandsFor x.window es → shown ≡ in_range x.window.seconds t es) → IsSumAt old t contents k shown
sums_at old windows contents t k x shown there same stand sums term is =
    let key : key_of x ≡ term_key term = same_Some (key_of x) (term_key term) (sym (slice_get-map key_of windows k ∙ ap (option_map key_of) there) ∙ ap (λ keys. slice_get keys k) same ∙ is) in
    let stands : StandsFor x.window (contents k x.code) = subst (λ o. IfSome o (λ it. StandsFor it.window (contents k it.code))) there (stand k) in
    sums (contents k x.code) stands ∙ ap (λ (p : RangeCode × ℕ). in_range p.1 t (contents k p.0)) key

-- each term's window is among them
pub within_of : (windows : List RangeWindow) (terms : List Term) (indices : List ℕ) → AllZip (IsWindowOf windows) terms indices → AllByRecursion (λ index. index < length windows) indices
within_of windows [] [] all = tt
within_of windows [] (index ∷ indices) all = absurd all
within_of windows (term ∷ terms) [] all = absurd all
within_of windows (term ∷ terms) (index ∷ indices) all =
    (omega (arith, slice_get_within (map key_of windows) index (term_key term) all.0, length-map windows key_of), within_of windows terms indices all.1)

-- what is not past a moment is not past a later one
pub not_past : (windows : List RangeWindow) (moment later : ℕ) → moment ≤ later → AllByRecursion (λ it. it.window.moment ≤ moment) windows → AllByRecursion (λ it. it.window.moment ≤ later) windows
not_past [] moment later less all = tt
not_past (it ∷ windows) moment later less all = (omega (arith, less, all.0), not_past windows moment later less all.1)

-- what is at a moment is not before it, and not past it
pub at_moment : (windows : List RangeWindow) (moment : ℕ) → AllByRecursion (λ it. it.window.moment ≡ moment) windows → AllByRecursion (λ it. moment ≤ it.window.moment) windows × AllByRecursion (λ it. it.window.moment ≤ moment) windows
at_moment [] moment all = (tt, tt)
at_moment (it ∷ windows) moment all = let rest = at_moment windows moment all.1 in ((omega (arith, all.0), rest.0), (omega (arith, all.0), rest.1))

-- so what they give are the partials of the terms
pub partials_of : (windows : List RangeWindow) (entries : List Entry) (t : ℕ) (terms : List Term) (indices : List ℕ) (shown : List Partial) → AllZip (IsWindowOf windows) terms indices → AllZip (IsPartialAt windows entries t) indices shown → shown ≡ map (λ term. partial entries term t) terms
partials_of windows entries t [] [] [] all given = refl
partials_of windows entries t [] [] (one ∷ shown) all given = absurd given
partials_of windows entries t [] (index ∷ indices) shown all given = absurd all
partials_of windows entries t (term ∷ terms) [] shown all given = absurd all
partials_of windows entries t (term ∷ terms) (index ∷ indices) [] all given = absurd given
partials_of windows entries t (term ∷ terms) (index ∷ indices) (one ∷ shown) all given =
    (λ i. given.0 term all.0 i ∷ partials_of windows entries t terms indices shown all.1 given.1 i)

-- and sums for the terms
pub sums_of : (windows : List RangeWindow) (t : ℕ) (contents : ContentsIn) (terms : List Term) (indices : List ℕ) (shown : List Partial) → AllZip (IsWindowOf windows) terms indices → AllZip (IsSumAt windows t contents) indices shown → AreSums windows t contents terms shown
sums_of windows t contents [] [] [] all given = tt
sums_of windows t contents [] [] (one ∷ shown) all given = absurd given
sums_of windows t contents [] (index ∷ indices) shown all given = absurd all
sums_of windows t contents (term ∷ terms) [] shown all given = absurd all
sums_of windows t contents (term ∷ terms) (index ∷ indices) [] all given = absurd given
sums_of windows t contents (term ∷ terms) (index ∷ indices) (one ∷ shown) all given =
    ((index, all.0, given.0 term all.0), sums_of windows t contents terms indices shown all.1 given.1)
