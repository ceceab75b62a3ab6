-- Trees of tests: one test, or two trees joined.
use Rattle.std.specs.Prelude.{◌≡◌, ℕ, zero, suc, ◌+◌, Bool, ◌||◌}
use Rattle.std.specs.Coded.{Coded}
use base.Stored.{Gv, gnil, gnum, gcons, num}
use mathlib.Core.Path.{sym, ap}
use native.Mathlib.Nat.{suc-ne-zero}
use Rattle.rl_query.specs.declared.label_test.Join.{Join}
use Rattle.rl_query.specs.declared.label_test.Join.TheVariants.{And, Or}

pub data TestTree (A : Type 0) : Type 0 where
  one : A → TestTree A
  joined : Join → TestTree A → TestTree A → TestTree A

-- how many joins a tree has
abbrev pub tree_size : {A : Type 0} → TestTree A → ℕ
tree_size (one test) = 0
tree_size (joined join left right) = tree_size left + tree_size right + 1

-- how many tests a tree has
abbrev pub count_tests : {A : Type 0} → TestTree A → ℕ
count_tests (one test) = 1
count_tests (joined join left right) = count_tests left + count_tests right

-- some test passes
abbrev pub any_test : {A : Type 0} → (A → Bool) → TestTree A → Bool
any_test passes (one test) = passes test
any_test passes (joined join left right) = any_test passes left || any_test passes right

-- the tree with each test seen by view
abbrev pub map_tree : {A B : Type 0} → (A → B) → TestTree A → TestTree B
map_tree view (one test) = one (view test)
map_tree view (joined join left right) = joined join (map_tree view left) (map_tree view right)

-- a tree as numbers, which differ for different trees
abbrev join_number : Join → ℕ
join_number And = 1
join_number Or = 2

abbrev pub stored : {A : Type 0} → Coded A → TestTree A → Gv
stored c (one test) = gcons (gnum 0) (c.code test)
stored c (joined join left right) = gcons (gnum (join_number join)) (gcons (stored c left) (stored c right))

abbrev first : Gv → Gv
first (gcons a b) = a
first _ = gnil

abbrev second : Gv → Gv
second (gcons a b) = b
second _ = gnil

pub stored_alone : {A : Type 0} (c : Coded A) (a b : TestTree A) → stored c a ≡ stored c b → a ≡ b
stored_alone c (one x) (one y) e = ap one (c.inj x y (ap second e))
stored_alone c (one x) (joined And l r) e = absurd (suc-ne-zero 0 (sym (ap (λ g. num (first g)) e)))
stored_alone c (one x) (joined Or l r) e = absurd (suc-ne-zero 1 (sym (ap (λ g. num (first g)) e)))
stored_alone c (joined And l r) (one y) e = absurd (suc-ne-zero 0 (ap (λ g. num (first g)) e))
stored_alone c (joined Or l r) (one y) e = absurd (suc-ne-zero 1 (ap (λ g. num (first g)) e))
stored_alone c (joined And l r) (joined And m s) e = λ i. joined And (stored_alone c l m (ap (λ g. first (second g)) e) i) (stored_alone c r s (ap (λ g. second (second g)) e) i)
stored_alone c (joined Or l r) (joined Or m s) e = λ i. joined Or (stored_alone c l m (ap (λ g. first (second g)) e) i) (stored_alone c r s (ap (λ g. second (second g)) e) i)
stored_alone c (joined And l r) (joined Or m s) e = absurd (suc-ne-zero 0 (sym (ap (λ g. pred (num (first g))) e)))
  where
    pred : ℕ → ℕ
    pred zero = 0
    pred (suc n) = n
stored_alone c (joined Or l r) (joined And m s) e = absurd (suc-ne-zero 0 (ap (λ g. pred (num (first g))) e))
  where
    pred : ℕ → ℕ
    pred zero = 0
    pred (suc n) = n

abbrev pub tree_code : {A : Type 0} → Coded A → Coded (TestTree A)
tree_code c = record { code = stored c; inj = stored_alone c }
