-- When two trees of tests are equal, by an equality of their tests.
use Rattle.std.proofs.Common.{◌≡◌, Bool, true, false, ◌&&◌, refl}
use Rattle.std.specs.Cmp.{IsEquivalence}
use Rattle.std.proofs.lemmas.Bool.{and_parts, and_from}
use Rattle.rl_query.specs.declared.label_test.Join.TheVariants.{And, Or}
use Rattle.rl_query.specs.TestTree.{TestTree, one, joined}

abbrev pub tree_eq : {A : Type 0} → (A → A → Bool) → TestTree A → TestTree A → Bool
tree_eq eq (one a) (one b) = eq a b
tree_eq eq (joined And l r) (joined And m s) = tree_eq eq l m && tree_eq eq r s
tree_eq eq (joined Or l r) (joined Or m s) = tree_eq eq l m && tree_eq eq r s
tree_eq eq _ _ = false

tree_refl : {A : Type 0} (eq : A → A → Bool) → IsEquivalence eq → (x : TestTree A) → tree_eq eq x x ≡ true
tree_refl eq e (one a) = e.refl a
tree_refl eq e (joined And l r) = and_from (tree_eq eq l l) _ (tree_refl eq e l) (tree_refl eq e r)
tree_refl eq e (joined Or l r) = and_from (tree_eq eq l l) _ (tree_refl eq e l) (tree_refl eq e r)

tree_symm : {A : Type 0} (eq : A → A → Bool) → IsEquivalence eq → (x y : TestTree A) → tree_eq eq x y ≡ tree_eq eq y x
tree_symm eq e (one a) (one b) = e.symm a b
tree_symm eq e (one a) (joined And m s) = refl
tree_symm eq e (one a) (joined Or m s) = refl
tree_symm eq e (joined And l r) (one b) = refl
tree_symm eq e (joined Or l r) (one b) = refl
tree_symm eq e (joined And l r) (joined And m s) = λ i. tree_symm eq e l m i && tree_symm eq e r s i
tree_symm eq e (joined Or l r) (joined Or m s) = λ i. tree_symm eq e l m i && tree_symm eq e r s i
tree_symm eq e (joined And l r) (joined Or m s) = refl
tree_symm eq e (joined Or l r) (joined And m s) = refl

tree_congr : {A : Type 0} (eq : A → A → Bool) → IsEquivalence eq → (x y z : TestTree A) → tree_eq eq x y ≡ true → tree_eq eq x z ≡ tree_eq eq y z
tree_congr eq e (one a) (one b) (one c) h = e.congr a b c h
tree_congr eq e (one a) (one b) (joined And n t) h = refl
tree_congr eq e (one a) (one b) (joined Or n t) h = refl
tree_congr eq e (one a) (joined And m s) z h = cc
tree_congr eq e (one a) (joined Or m s) z h = cc
tree_congr eq e (joined And l r) (one b) z h = cc
tree_congr eq e (joined Or l r) (one b) z h = cc
tree_congr eq e (joined And l r) (joined Or m s) z h = cc
tree_congr eq e (joined Or l r) (joined And m s) z h = cc
tree_congr eq e (joined And l r) (joined And m s) (one c) h = refl
tree_congr eq e (joined Or l r) (joined Or m s) (one c) h = refl
tree_congr eq e (joined And l r) (joined And m s) (joined Or n t) h = refl
tree_congr eq e (joined Or l r) (joined Or m s) (joined And n t) h = refl
tree_congr eq e (joined And l r) (joined And m s) (joined And n t) h = let p = and_parts (tree_eq eq l m) _ h in λ i. tree_congr eq e l m n p.0 i && tree_congr eq e r s t p.1 i
tree_congr eq e (joined Or l r) (joined Or m s) (joined Or n t) h = let p = and_parts (tree_eq eq l m) _ h in λ i. tree_congr eq e l m n p.0 i && tree_congr eq e r s t p.1 i

pub tree_equiv : {A : Type 0} {eq : A → A → Bool} → IsEquivalence eq → IsEquivalence (tree_eq eq)
tree_equiv {A} {eq} e = record { refl = tree_refl eq e; symm = tree_symm eq e; congr = tree_congr eq e }
