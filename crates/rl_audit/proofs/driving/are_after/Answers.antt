-- Each is before the other where all are.
use Rattle.std.proofs.Common.{◌≡◌, ◌<◌, ◌&&◌, ℕ, Bool, false, true, List, [], ◌∷◌, length, refl, sym, ◌∙◌, arith, rules}
use Rattle.std.proofs.iter.Yields.{fronts}
use Rattle.std.proofs.lemmas.Bool.{ltb-true}
use Rattle.std.proofs.lemmas.Iterator.{YieldsList-from_slice, YieldsList-from_zip}
use Rattle.std.proofs.lemmas.Iterator.Search.{all_from_yields_List}
use Rattle.std.specs.List.{AllZip, list_all, zip}
use Rattle.std.specs.Prelude.{nat_lt}
use borrow.Author.Tests.{tests}
use denote.Ref.{Bor}
use Rattle.rl_audit.proofs.driving.are_after.Goals as goal

abbrev is_before : ℕ × ℕ → Bool
is_before pair = nat_lt pair.0 pair.1

and_is : (a b : Bool) → (a && b) ≡ true → (a ≡ true) × (b ≡ true)
and_is true b h = (refl, h)
and_is false b h = cc

all_before : (places later : List ℕ) → length places ≡ length later → list_all is_before (zip places later) ≡ true → AllZip (λ place later. place < later) places later
all_before [] [] each all = tt
all_before [] (y ∷ later) each all = absurd (omega (arith, each))
all_before (x ∷ places) [] each all = absurd (omega (arith, each))
all_before (x ∷ places) (y ∷ later) each all =
    let both = and_is (nat_lt x y) (list_all is_before (zip places later)) all in
    (ltb-true x y both.0, all_before places later (omega (arith, each)) both.1)

pub returns-then-places-later : goal.returns-then-places-later
returns-then-places-later c = λ is.
    let shown = all_from_yields_List is_before c.all.new.self _ c.all.result c.all.ensures.ran (YieldsList-from_zip {steps = fronts} {others = fronts} {v = λ (y : Bor ℕ). y.now} {w = λ (y : Bor ℕ). y.now} (YieldsList-from_slice c.args.places.now cc) (YieldsList-from_slice c.args.later.now cc)) (λ x b q k. search (rules, tests)) in
    all_before c.args.places.now c.args.later.now (omega arith) (sym shown ∙ is)
