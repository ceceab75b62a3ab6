-- Label tests with one form are one. They have the counts of tests and parentheses of their form.
use Rattle.std.proofs.Common.{◌≡◌, ◌+◌, max, not, refl, ap, IsTrue}
use Rattle.std.proofs.Props.{props}
use mathlib.Core.HLevel.{Σ_prop_path}
use Rattle.rl_labels.specs.laws.OrderLaws.{same_matcher}
use Rattle.rl_labels.specs.declared.matcher.Matcher.{Matcher}
use Rattle.rl_query.specs.declared.label_test.Join.TheVariants.{And}
use Rattle.rl_query.specs.declared.label_test.LabelTest.{LabelTest}
use Rattle.rl_query.specs.declared.label_test.LabelTest.TheVariants as leaves
use Rattle.rl_query.specs.declared.label_test.Level.{Level}
use Rattle.rl_query.specs.declared.label_test.Level.TheVariants as levels
use Rattle.rl_labels.specs.Name.{is_name}
use Rattle.rl_query.specs.Form.{QuantityForm, matcher_form, quantity_form, test_form, tests_form}
use Rattle.rl_query.specs.Quantities.{is_quantity}
use Rattle.rl_query.specs.Limits.{is_taken}
use Rattle.rl_query.specs.TestDepth.{left_level, right_level, needs, deepened, text_depth}
use Rattle.rl_query.specs.TestTree.{TestTree, one, joined, count_tests}

same_test : (a b : LabelTest) → test_form a ≡ test_form b → a ≡ b
same_test (leaves.Text a) (leaves.Text b) e =
    let forms : matcher_form a.matcher ≡ matcher_form b.matcher = cc in
    let matchers = same_matcher a.matcher b.matcher (ap (λ f. f.name) forms) (ap (λ f. f.op) forms) (ap (λ f. f.value) forms) in
    let whole : ◌≡◌ {A = (m : Matcher) × IsTrue (not (is_taken m.name))} (a.matcher, a.free) (b.matcher, b.free) = Σ_prop_path (λ m. hlevel props) matchers in
    λ i. leaves.Text (record { matcher = (whole i).0; free = (whole i).1 })
same_test (leaves.Quantity a) (leaves.Quantity b) e =
    let forms : quantity_form a ≡ quantity_form b = cc in
    let whole : ◌≡◌ {A = (q : QuantityForm) × (IsTrue (is_name q.name) × IsTrue (not (is_taken q.name)) × IsTrue (is_quantity q.quantity))} (quantity_form a, (a.named, a.free, a.proper)) (quantity_form b, (b.named, b.free, b.proper)) = Σ_prop_path (λ q. hlevel props) forms in
    λ i. leaves.Quantity (record { name = (whole i).0.name; comparison = (whole i).0.comparison; quantity = (whole i).0.quantity; named = (whole i).1.0; free = (whole i).1.1; proper = (whole i).1.2 })
same_test _ _ e = cc

pub same_tests : (a b : TestTree LabelTest) → tests_form a ≡ tests_form b → a ≡ b
same_tests (one a) (one b) e = let forms : test_form a ≡ test_form b = cc in ap one (same_test a b forms)
same_tests (one a) (joined join left right) e = cc
same_tests (joined join left right) (one b) e = cc
same_tests (joined join left right) (joined other front back) e =
    let joins : join ≡ other = cc in
    let lefts : tests_form left ≡ tests_form front = cc in
    let rights : tests_form right ≡ tests_form back = cc in
    λ i. joined (joins i) (same_tests left front lefts i) (same_tests right back rights i)

pub count_forms : (tests : TestTree LabelTest) → count_tests (tests_form tests) ≡ count_tests tests
count_forms (one test) = refl
count_forms (joined join left right) = λ i. count_forms left i + count_forms right i

needs_forms : (level : Level) (tests : TestTree LabelTest) → needs level (tests_form tests) ≡ needs level tests
needs_forms levels.All (joined And left right) = refl
needs_forms levels.One (one test) = refl
needs_forms _ _ = refl

pub depth_forms : (tests : TestTree LabelTest) → text_depth (tests_form tests) ≡ text_depth tests
depth_forms (one test) = refl
depth_forms (joined join left right) = λ i. max (deepened (needs_forms (left_level join) left i) (depth_forms left i)) (deepened (needs_forms (right_level join) right i) (depth_forms right i))
