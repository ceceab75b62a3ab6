-- What is printed of label tests is derived.
use Rattle.std.proofs.Common.{◌≡◌, inl, ℕ, zero, suc, ◌-◌, ◌≤◌, ◌==◌, Bool, true, false, not, ◌&&◌, List, [], ◌∷◌, ◌++◌, codes, refl, sym, subst, arith, append_assoc, Ok, Some}
use Rattle.std.proofs.lemmas.Bool.Decides.{nat_tests}
use Rattle.rl_query.specs.declared.quantity_test.Comparison.{Comparison}
use Rattle.rl_query.specs.declared.quantity_test.Comparison.TheVariants as comparisons
use Rattle.std.proofs.lemmas.Bool.{and_parts, and_from, not-true}
use Rattle.rl_query.specs.declared.label_test.Join.{Join}
use Rattle.rl_query.specs.declared.label_test.Join.TheVariants.{And, Or}
use Rattle.rl_query.specs.declared.label_test.Level.{Level}
use Rattle.rl_query.specs.declared.label_test.Level.TheVariants as levels
use Rattle.rl_query.specs.declared.token.Lexeme.{Lexeme}
use Rattle.rl_query.specs.declared.token.Token.TheVariants as tokens
use Rattle.rl_labels.specs.Name.{is_name}
use Rattle.rl_labels.specs.Operators.{is_comparable}
use Rattle.rl_query.specs.Quantities.{quantity_text, is_quantity}
use Rattle.rl_query.specs.declared.label_test.LabelTest.{LabelTest}
use Rattle.rl_query.specs.declared.label_test.LabelTest.TheVariants as leaves
use Rattle.rl_selector_text.specs.Testing.{tests_at}
use Rattle.rl_selector_text.proofs.TestReadings.{tests_are_read}
use Rattle.rl_query.specs.Form.{TestForm, by_text, by_quantity, tests_form}
use Rattle.rl_selector_text.specs.Standing.{operator_sign}
use Rattle.rl_query.specs.Tables.{comparison_of, comparison_sign}
use Rattle.rl_selector_text.specs.Lexing.{lexemes_of}
use Rattle.rl_selector_text.specs.TestGrammar.{Rule, test_name, IsLabelTest, IsOne, alone, in_parentheses, Joins, AreJoined, part, more, AreTestsIn, AreInside, AreTests, ended}
use Rattle.rl_query.specs.Limits.{is_taken}
use Rattle.rl_query.specs.TestPrinting.{test_text, join_text, enclosed, tests_text}
use Rattle.rl_query.specs.TestDepth.{left_level, right_level, needs, deepened, text_depth}
use Rattle.rl_query.specs.TestTree.{TestTree, one, joined, count_tests}
use Rattle.rl_selector_text.proofs.QuantityTokens.{quantity_number, quantity_again}
use Rattle.rl_selector_text.proofs.Printed.{Prints, Then, Stops, Ends, prints_as, then_prints, prints_all, before_space, regrouped, sign_stops, opens, closes, token_then, done, matcher_then, spaced}

-- each test passes
abbrev pub all_tests : {A : Type 0} → (A → Bool) → TestTree A → Bool
all_tests passes (one test) = passes test
all_tests passes (joined join left right) = all_tests passes left && all_tests passes right

-- the pattern or the quantity of a test is one
abbrev pub has_value : TestForm → Bool
has_value (by_text matcher) = is_comparable matcher.op matcher.value
has_value (by_quantity test) = is_quantity test.quantity

-- and its name, which is no word of the grammar
abbrev pub is_test : TestForm → Bool
is_test test = is_name (test_name test) && (not (is_taken (test_name test)) && has_value test)

join_prints : (join : Join) {R : List Lexeme → List Lexeme → Type 0} (bytes : List ℕ) {rest : List ℕ} → Prints R bytes rest → Prints (Then (Joins join) R) (join_text join ++ bytes) rest
join_prints And bytes prints = then_prints (before_space bytes (prints_as (spaced (token_then (tokens.Word (codes "and")) (32 ∷ bytes) (refl, refl) done)) (λ a b word. inl word))) prints
join_prints Or bytes prints = then_prints (before_space bytes (spaced (token_then (tokens.Word (codes "or")) (32 ∷ bytes) (refl, refl) done))) prints

-- a comparison, and no equals sign after it
pub comparison_ends : (c : Comparison) (b : ℕ) (rest : List ℕ) → (b == 61) ≡ false → Ends (comparison_sign c) (b ∷ rest)
comparison_ends comparisons.Greater b rest other = rw other refl
comparison_ends comparisons.Less b rest other = rw other refl
comparison_ends _ b rest other = refl

-- the facts of a test
kept : (test : TestForm) → is_test test ≡ true → (is_name (test_name test) ≡ true) × (not (is_taken (test_name test)) ≡ true) × (has_value test ≡ true)
kept test proper = let parts = and_parts (is_name (test_name test)) _ proper in let others = and_parts (not (is_taken (test_name test))) _ parts.1 in (parts.0, others.0, others.1)

test_prints : (test : TestForm) (rest : List ℕ) → is_test test ≡ true → Stops rest → Prints (IsLabelTest test) (test_text test ++ rest) rest
test_prints (by_text m) rest proper stop =
    let k = kept (by_text m) proper in
    prints_as (matcher_then m rest (and_from (is_name m.name) _ k.0 k.2) done) (λ a b stand. record { sign = operator_sign m.op; value = tokens.Text m.value; stand = stand; compares = (refl, refl, k.2); named = k.0; free = not-true (is_taken m.name) k.1 })
test_prints (by_quantity t) rest proper stop =
    let k = kept (by_quantity t) proper in
    let sign = comparison_sign t.comparison in
    let text = quantity_text t.quantity in
    let again = elim t.comparison as (λ c. comparison_of (comparison_sign c) ≡ Some c) [ comparisons.Equal ↦ refl | _ ↦ refl ] in
    let number = quantity_number t.quantity k.2 in
    let ends : Ends sign (text ++ rest) = subst (λ n. Ends sign (n ++ rest)) (sym number.is) (comparison_ends t.comparison number.first (number.others ++ rest) (grind (arith, nat_tests, number.digit))) in
    prints_as (simp append_assoc (token_then (tokens.Word t.name) _ (k.0, sign_stops sign (text ++ rest)) (token_then (tokens.Sign sign) _ ends (token_then (tokens.Number text) rest (number, stop) done))))
    (λ a b stand. record { sign = sign; value = tokens.Number text; stand = stand; compares = (again, (text, refl, quantity_again t.quantity k.2)); named = k.0; free = not-true (is_taken t.name) k.1 })

-- what is printed of tests is read as tests, at each level with the parentheses that they need there
abbrev pub RuleAt : Level → Rule → Rule
RuleAt levels.Tests Inside = AreTestsIn Inside
RuleAt levels.All Inside = AreJoined And (IsOne Inside)
RuleAt levels.One Inside = IsOne Inside

abbrev pub PrintsAt : Level → TestTree TestForm → Type 0
PrintsAt level tests = (depth : ℕ) (rest : List ℕ) → deepened (needs level tests) (text_depth tests) ≤ depth → Stops rest → Prints (RuleAt level (AreInside depth) tests) (enclosed (needs level tests) (tests_text tests) ++ rest) rest

parenthesized : (tests : TestTree TestForm) → ((depth : ℕ) (rest : List ℕ) → text_depth tests ≤ depth → Stops rest → Prints (AreTests depth tests) (tests_text tests ++ rest) rest)
    → (depth : ℕ) (rest : List ℕ) → suc (text_depth tests) ≤ depth → Stops rest → Prints (IsOne (AreInside depth) tests) (enclosed true (tests_text tests) ++ rest) rest
parenthesized tests at zero rest deep stop = absurd (omega (arith, deep))
parenthesized tests at (suc depth) rest deep stop =
    prints_as (then_prints (opens _) (regrouped (tests_text tests) (41 ∷ []) rest (then_prints (at depth (41 ∷ rest) (omega (arith, deep)) refl) (closes rest)))) (λ a b is. in_parentheses tests a is.0 is.2.0 b is.1 is.2.1 is.2.2)

joined_prints : (join : Join) (l r : TestTree TestForm) → PrintsAt (left_level join) l → PrintsAt (right_level join) r → (depth : ℕ) (rest : List ℕ) → text_depth (joined join l r) ≤ depth → Stops rest → Prints (RuleAt (left_level join) (AreInside depth) (joined join l r)) (tests_text (joined join l r) ++ rest) rest
joined_prints join l r left right depth rest deep stop =
    let front = enclosed (needs (left_level join) l) (tests_text l) in
    let stops = elim join as (λ j. Stops (join_text j ++ (enclosed (needs (right_level join) r) (tests_text r) ++ rest))) [ And ↦ refl | Or ↦ refl ] in
    let back = enclosed (needs (right_level join) r) (tests_text r) in
    regrouped (front ++ join_text join) back rest (regrouped front (join_text join) (back ++ rest)
    (prints_as (then_prints (left depth (join_text join ++ (back ++ rest)) (omega (arith, deep)) stops) (join_prints join (back ++ rest) (right depth rest (omega (arith, deep)) stop))) (by_join join)))
  where
    by_join : (j : Join) (a c : List Lexeme) → Then (RuleAt (left_level j) (AreInside depth) l) (Then (Joins j) (RuleAt (right_level j) (AreInside depth) r)) a c → RuleAt (left_level j) (AreInside depth) (joined j l r) a c
    by_join And a c is = more l r a is.0 is.2.0 c is.1 is.2.1 is.2.2
    by_join Or a c is = more l r a is.0 is.2.0 c is.1 is.2.1 is.2.2

pub prints_at : (tests : TestTree TestForm) → all_tests is_test tests ≡ true → (level : Level) → PrintsAt level tests
prints_at (one t) proper levels.Tests = λ depth rest deep stop. prints_as (test_prints t rest proper stop) (λ a b is. part (one t) a b (part (one t) a b (alone t a b is)))
prints_at (one t) proper levels.All = λ depth rest deep stop. prints_as (test_prints t rest proper stop) (λ a b is. part (one t) a b (alone t a b is))
prints_at (one t) proper levels.One = λ depth rest deep stop. prints_as (test_prints t rest proper stop) (λ a b is. alone t a b is)
prints_at (joined join l r) proper level =
    let parts = and_parts (all_tests is_test l) (all_tests is_test r) proper in
    by_level join level (joined_prints join l r (prints_at l parts.0 (left_level join)) (prints_at r parts.1 (right_level join)))
  where
    by_level : (j : Join) (level : Level) → ((depth : ℕ) (rest : List ℕ) → text_depth (joined j l r) ≤ depth → Stops rest → Prints (RuleAt (left_level j) (AreInside depth) (joined j l r)) (tests_text (joined j l r) ++ rest) rest) → PrintsAt level (joined j l r)
    by_level And levels.Tests at = λ depth rest deep stop. prints_as (at depth rest deep stop) (λ a b is. part (joined And l r) a b is)
    by_level And levels.All at = at
    by_level And levels.One at = parenthesized (joined And l r) (λ depth rest deep stop. prints_as (at depth rest deep stop) (λ a b is. part (joined And l r) a b is))
    by_level Or levels.Tests at = at
    by_level Or levels.All at = λ depth rest deep stop. prints_as (parenthesized (joined Or l r) at depth rest deep stop) (λ a b is. part (joined Or l r) a b is)
    by_level Or levels.One at = parenthesized (joined Or l r) at

-- what is printed is derived, up to the end
pub tests_printed : (tests : TestTree TestForm) (depth : ℕ) → all_tests is_test tests ≡ true → text_depth tests ≤ depth → AreTests depth tests (lexemes_of (tests_text tests)) (ended (tests_text tests))
tests_printed tests depth proper deep = prints_all {R = AreTests depth tests} (tests_text tests) (prints_at tests proper levels.Tests depth [] deep refl)

-- the facts of the types are what a test's form keeps
pub tests_kept : (tests : TestTree LabelTest) → all_tests is_test (tests_form tests) ≡ true
tests_kept (one (leaves.Text test)) = and_from (is_name test.matcher.name) _ test.matcher.named (and_from (not (is_taken test.matcher.name)) _ test.free test.matcher.comparable)
tests_kept (one (leaves.Quantity test)) = and_from (is_name test.name) _ test.named (and_from (not (is_taken test.name)) _ test.free test.proper)
tests_kept (joined join l r) = and_from (all_tests is_test (tests_form l)) _ (tests_kept l) (tests_kept r)

-- and is read again
pub tests_again : (tests : TestTree TestForm) (depth left : ℕ) → all_tests is_test tests ≡ true → text_depth tests ≤ depth → count_tests tests ≤ left → tests_at depth left (lexemes_of (tests_text tests)) ≡ Ok (tests, left - count_tests tests, ended (tests_text tests))
tests_again tests depth left proper deep few = tests_are_read depth left (lexemes_of (tests_text tests)) tests (left - count_tests tests) (ended (tests_text tests)) (tests_printed tests depth proper deep) (refl, refl) (omega (arith, few))
