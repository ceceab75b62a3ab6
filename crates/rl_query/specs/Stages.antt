-- What the stages of a range are, as its type counts them.
use Rattle.rl_query.specs.TestTree.{count_tests}
use Rattle.rl_query.specs.TestDepth.{text_depth}
use Rattle.rl_query.specs.Limits.{most_depth}
use Rattle.std.specs.List.{sum_by, list_all, count_by}
use Rattle.std.specs.Option.{option_map_or}
use Rattle.std.specs.Prelude.{nat_le, ℕ, ◌+◌, ◌-◌, Bool, true, false, List, length, Option}
use Rattle.rl_query.specs.declared.aggregation.Aggregation.{Aggregation}
use Rattle.rl_query.specs.declared.stages.Stage.{Stage}
use Rattle.rl_query.specs.declared.stages.Stage.TheVariants as kinds

abbrev pub is_parser : Stage → Bool
is_parser (kinds.Parser parser) = true
is_parser _ = false

abbrev pub count_parsers : List Stage → ℕ
count_parsers stages = count_by is_parser stages

-- how many label tests a stage has
abbrev pub tests_in : Stage → ℕ
tests_in (kinds.Tests tests) = count_tests tests
tests_in _ = 0

abbrev pub count_label_tests : List Stage → ℕ
count_label_tests stages = sum_by tests_in stages

-- at most `depth` of its parentheses are open at once
abbrev pub is_shallow : (depth : ℕ) → Stage → Bool
is_shallow depth (kinds.Tests tests) = nat_le (text_depth tests) depth
is_shallow depth _ = true

abbrev pub are_shallow : (depth : ℕ) → List Stage → Bool
are_shallow depth stages = list_all (is_shallow depth) stages

-- each vector aggregation opens a parenthesis around them
abbrev pub are_shallow_in : List Aggregation → List Stage → Bool
are_shallow_in aggregations stages = are_shallow (most_depth - length aggregations) stages

-- how many there are in a term and in a second one, if there is one
abbrev pub in_both : {A : Type 0} → (A → ℕ) → A → Option A → ℕ
in_both count left over = count left + option_map_or count over 0
