-- Windows of ranges of some terms.
use Rattle.std.proofs.Common.{◌≤◌, List, [], ◌∷◌, inl, inr, length, map, arith}
use Rattle.std.proofs.lemmas.List.{length-map}
use Rattle.rl_query.specs.declared.query.Term.{Term}
use Rattle.rl_slots.specs.Slots.{key_of, term_key, ArePicked}
use Rattle.rl_slots.specs.declared.range_window.RangeWindow.{RangeWindow}

-- there are at most as many items as there are to pick from
picked_few : {X : Type 0} (items others : List X) → ArePicked items others → length items ≤ length others
picked_few [] others picked = omega arith
picked_few (item ∷ items) [] picked = absurd picked
picked_few (item ∷ items) (other ∷ others) (inl here) = omega (arith, picked_few items others here.1)
picked_few (item ∷ items) (other ∷ others) (inr later) = omega (arith, picked_few (item ∷ items) others later)

-- and at most as many windows as terms
pub windows_few : (windows : List RangeWindow) (terms : List Term) → ArePicked (map key_of windows) (map term_key terms) → length windows ≤ length terms
windows_few windows terms picked = omega (arith, picked_few (map key_of windows) (map term_key terms) picked, length-map windows key_of, length-map terms term_key)
