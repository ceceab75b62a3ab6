-- A test that passes where two values tie in an order decides whether they are one.
use Rattle.std.proofs.Common.{◌≡◌, Bool, true, ap, sym, ◌∙◌}
use Rattle.std.specs.Ordering.{eq_by_cmp, is_eq}
use Rattle.std.specs.declared.cmp.Ordering.{Ordering}
use Rattle.std.specs.Cmp.{IsTotalOrder, Equal-is}
use Rattle.std.specs.FinMap.{IsAntisymmetric}
use Rattle.std.proofs.lemmas.Cmp.{tied_itself}

pub same_by_order : {K : Type 0} {R : K → K → Ordering} → IsTotalOrder R → IsAntisymmetric R → (a b : K) (r : Bool) → r ≡ eq_by_cmp R a b → (r ≡ true → a ≡ b) × (a ≡ b → r ≡ true)
same_by_order {R = R} o same a b r e = (λ h. same a b ((Equal-is (R a b)).0 (sym e ∙ h)), λ is. e ∙ ap (λ c. is_eq (R a c)) (sym is) ∙ ap is_eq (tied_itself o a))
