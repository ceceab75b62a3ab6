-- What label tests answer of labels, and the labels that a line has after them.
use Rattle.std.specs.Prelude.{ℕ, Bool, false, not, List, Option, Some, None, if◌then◌else◌}
use Rattle.rl_labels.specs.LabelSet.{LabelSet}
use Rattle.rl_labels.specs.Operators as operators
use Rattle.rl_labels.specs.Selects.{accepts}
use Rattle.rl_labels.specs.declared.matcher.Matcher.{Matcher}
use Rattle.rl_query.specs.declared.label_test.Join.{Join}
use Rattle.rl_query.specs.declared.label_test.Join.TheVariants.{And, Or}
use Rattle.rl_query.specs.declared.label_test.LabelTest.{LabelTest}
use Rattle.rl_query.specs.declared.label_test.LabelTest.TheVariants.{Text, Quantity}
use Rattle.rl_pipeline.specs.QuantityTests.{quantity_answer}
use Rattle.rl_query.specs.TestTree.{TestTree, one, joined, any_test}

-- of one test
abbrev pub test_answer : LabelTest → LabelSet → Bool × LabelSet
test_answer (Text test) labels = (accepts test.matcher labels, labels)
test_answer (Quantity test) labels = quantity_answer test labels

-- `and` stops at the first that is false, and `or` at the first that is true
abbrev pub is_decided : Join → (passes : Bool) → Bool
is_decided And passes = not passes
is_decided Or passes = passes

-- the tests are made from left to right, as far as they decide
abbrev pub tests_answer : TestTree LabelTest → LabelSet → Bool × LabelSet
tests_answer (one test) labels = test_answer test labels
tests_answer (joined join left right) labels = let first = tests_answer left labels in if is_decided join first.0 then first else tests_answer right first.1

-- the test is by pattern
abbrev pub is_by_pattern : LabelTest → Bool
is_by_pattern (Text test) = operators.is_by_pattern test.matcher.op
is_by_pattern (Quantity test) = false

-- some of the tests is
abbrev pub are_by_pattern : TestTree LabelTest → Bool
are_by_pattern tests = any_test is_by_pattern tests

-- the pattern of a matcher, and of a test
abbrev pub matcher_pattern : Matcher → Option (List ℕ)
matcher_pattern matcher = if operators.is_by_pattern matcher.op then Some matcher.value else None

abbrev pub test_pattern : LabelTest → Option (List ℕ)
test_pattern (Text test) = matcher_pattern test.matcher
test_pattern (Quantity test) = None
