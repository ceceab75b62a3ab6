-- When two values of a type with a code are one: all that contracts see of them is equal.
use Rattle.std.specs.Prelude.{◌≡◌, ◌↔◌, ◌==◌, IsTrue, Bool, true, false, ◌&&◌, refl}
use Rattle.std.specs.Cmp.{IsEquivalence, decided}
use Rattle.std.proofs.Common.{sym, ap, subst}
use Rattle.std.proofs.lemmas.Bool.{and_parts, and_from, eqb-true, eq-eqb}
use base.Stored.{Coded, Gv, gnil, gnum, gcons}

-- whether two trees of numbers are one, as which values are stored one to one
same_tree : Gv → Gv → Bool
same_tree gnil gnil = true
same_tree (gnum m) (gnum n) = m == n
same_tree (gcons a b) (gcons c d) = same_tree a c && same_tree b d
same_tree _ _ = false

same_tree-itself : (a : Gv) → same_tree a a ≡ true
unfolding same_tree
same_tree-itself gnil = refl
same_tree-itself (gnum n) = eq-eqb n n refl
same_tree-itself (gcons a b) = and_from (same_tree a a) (same_tree b b) (same_tree-itself a) (same_tree-itself b)

same_tree-true : (a b : Gv) → same_tree a b ≡ true → a ≡ b
unfolding same_tree
same_tree-true gnil gnil is = refl
same_tree-true (gnum m) (gnum n) is = ap gnum (eqb-true m n is)
same_tree-true (gcons a b) (gcons c d) is =
    let parts = and_parts (same_tree a c) (same_tree b d) is in
    λ i. gcons (same_tree-true a c parts.0 i) (same_tree-true b d parts.1 i)
same_tree-true gnil (gnum n) is = cc
same_tree-true gnil (gcons c d) is = cc
same_tree-true (gnum m) gnil is = cc
same_tree-true (gnum m) (gcons c d) is = cc
same_tree-true (gcons a b) gnil is = cc
same_tree-true (gcons a b) (gnum n) is = cc

module _ {A : Type 0} (coded : Coded A) where
  -- whether two values are stored as one
  pub same_coded : A → A → Bool
  same_coded one other = same_tree (coded.code one) (coded.code other)

  -- it is so exactly where they are one value
  pub same_coded-true : (one other : A) → IsTrue (same_coded one other) ↔ (one ≡ other)
  unfolding same_coded
  same_coded-true one other = (
    λ is. coded.inj one other (same_tree-true (coded.code one) (coded.code other) is),
    λ is. subst (λ (a : A). same_tree (coded.code one) (coded.code a) ≡ true) is (same_tree-itself (coded.code one)),
  )

  -- so it is an equality
  pub same_coded-equiv : IsEquivalence same_coded
  same_coded-equiv = decided same_coded same_coded-true

  -- any test of whether two values are one is this one
  pub same_answer : (b : Bool) (one other : A) → (IsTrue b ↔ (one ≡ other)) → b ≡ same_coded one other
  same_answer b one other shows = alike b (same_coded one other) shows (same_coded-true one other)
    where
      alike : {P : Type 0} (a b : Bool) → (IsTrue a ↔ P) → (IsTrue b ↔ P) → a ≡ b
      alike true true x y = refl
      alike false false x y = refl
      alike true false x y = sym (y.1 (x.0 refl))
      alike false true x y = x.1 (y.0 refl)
