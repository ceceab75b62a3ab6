-- Queries without the facts that their types keep.
use Rattle.rl_query.specs.TestTree.{any_test, count_tests, TestTree, map_tree}
use Rattle.std.specs.List.{sum_by, list_any, count_by}
use Rattle.std.specs.Option.{option_map_or}
use Rattle.std.specs.Prelude.{ℕ, ◌+◌, nat_le, Bool, true, false, not, ◌&&◌, ◌||◌, List, [], length, map, Option, option_map}
use Rattle.rl_labels.specs.Decimals.{DecimalForm}
use Rattle.rl_labels.specs.Operators.{passes, is_by_pattern}
use Rattle.rl_labels.specs.declared.matcher.Matcher.{Matcher}
use Rattle.rl_labels.specs.declared.matcher.MatchOp.{MatchOp}
use Rattle.rl_query.specs.declared.filter.LineFilter.{LineFilter}
use Rattle.rl_query.specs.declared.filter.LineOp.{LineOp}
use Rattle.rl_query.specs.declared.filter.Sieve.{Sieve}
use Rattle.rl_query.specs.declared.label_test.LabelTest.{LabelTest}
use Rattle.rl_query.specs.declared.label_test.LabelTest.TheVariants as tests
use Rattle.rl_query.specs.declared.quantity_test.Comparison.{Comparison}
use Rattle.rl_query.specs.declared.quantity_test.Quantity.{Quantity}
use Rattle.rl_query.specs.declared.quantity_test.QuantityTest.{QuantityTest}
use Rattle.rl_query.specs.declared.aggregation.Aggregation.{Aggregation}
use Rattle.rl_query.specs.declared.aggregation.Grouping.{Grouping}
use Rattle.rl_query.specs.declared.aggregation.Threshold.{Threshold}
use Rattle.rl_query.specs.declared.aggregation.VectorOperator.{VectorOperator}
use Rattle.rl_query.specs.declared.query.Query.{Query}
use Rattle.rl_query.specs.declared.query.Term.{Term}
use Rattle.rl_query.specs.declared.query.LogRange.{LogRange}
use Rattle.rl_query.specs.declared.query.RangeFunction.{RangeFunction}
use Rattle.rl_query.specs.declared.stages.Parser.{Parser}
use Rattle.rl_query.specs.declared.stages.Stage.{Stage}
use Rattle.rl_query.specs.declared.stages.Stage.TheVariants as kinds
use Rattle.rl_query.specs.Limits.{is_line_pattern, most_aggregations}

pub record MatcherForm : Type 0 where
  pub name : List ℕ
  pub op : MatchOp
  pub value : List ℕ

pub record FilterForm : Type 0 where
  pub op : LineOp
  pub text : List ℕ

pub record QuantityForm : Type 0 where
  pub name : List ℕ
  pub comparison : Comparison
  pub quantity : Quantity

pub data TestForm : Type 0 where
  by_text : MatcherForm → TestForm
  by_quantity : QuantityForm → TestForm

pub data StageForm : Type 0 where
  by_filter : FilterForm → StageForm
  by_parser : Parser → StageForm
  by_tests : TestTree TestForm → StageForm

pub record RangeForm : Type 0 where
  pub matchers : List MatcherForm
  pub stages : List StageForm
  pub seconds : ℕ

pub record AggregationForm : Type 0 where
  pub operator : VectorOperator
  pub grouping : Grouping

-- vector aggregations, the outermost first, around a range aggregation
pub record TermForm : Type 0 where
  pub aggregations : List AggregationForm
  pub function : RangeFunction
  pub range : RangeForm

pub record ThresholdForm : Type 0 where
  pub comparison : Comparison
  pub value : DecimalForm

pub record QueryForm : Type 0 where
  pub left : TermForm
  pub over : Option TermForm
  pub test : Option ThresholdForm

abbrev pub matcher_form : Matcher → MatcherForm
matcher_form matcher = record { name = matcher.name; op = matcher.op; value = matcher.value }

abbrev pub filter_form : LineFilter → FilterForm
filter_form filter = record { op = filter.op; text = filter.text }

abbrev pub quantity_form : QuantityTest → QuantityForm
quantity_form test = record { name = test.name; comparison = test.comparison; quantity = test.quantity }

abbrev pub test_form : LabelTest → TestForm
test_form (tests.Text test) = by_text (matcher_form test.matcher)
test_form (tests.Quantity test) = by_quantity (quantity_form test)

abbrev pub tests_form : TestTree LabelTest → TestTree TestForm
tests_form = map_tree test_form

abbrev pub stage_form : Stage → StageForm
stage_form (kinds.Filter filter) = by_filter (filter_form filter)
stage_form (kinds.Parser parser) = by_parser parser
stage_form (kinds.Tests tests) = by_tests (tests_form tests)

abbrev pub range_form : LogRange → RangeForm
range_form range = record { matchers = map matcher_form range.selector.matchers; stages = map stage_form range.stages; seconds = range.seconds }

abbrev pub aggregation_form : Aggregation → AggregationForm
aggregation_form aggregation = record { operator = aggregation.operator; grouping = aggregation.grouping }

abbrev pub term_form : Term → TermForm
term_form term = record { aggregations = map aggregation_form term.aggregations; function = term.function; range = range_form term.range }

abbrev pub threshold_form : Threshold → ThresholdForm
threshold_form threshold = record { comparison = threshold.comparison; value = threshold.value }

abbrev pub query_form : Query → QueryForm
query_form query = record { left = term_form query.left; over = option_map term_form query.over; test = option_map threshold_form query.test }

-- some matcher refuses the empty text
abbrev pub has_real_form : List MatcherForm → Bool
has_real_form matchers = list_any (λ matcher. not (passes matcher.op matcher.value [])) matchers

-- some matcher has a pattern
abbrev pub has_pattern : List MatcherForm → Bool
has_pattern matchers = list_any (λ matcher. is_by_pattern matcher.op) matchers

-- some line filter has a pattern
abbrev pub filters_have_pattern : List FilterForm → Bool
filters_have_pattern filters = list_any (λ filter. is_line_pattern filter.op) filters

abbrev pub test_has_pattern : TestForm → Bool
test_has_pattern (by_text matcher) = is_by_pattern matcher.op
test_has_pattern (by_quantity test) = false

abbrev pub stage_has_pattern : StageForm → Bool
stage_has_pattern (by_filter filter) = is_line_pattern filter.op
stage_has_pattern (by_tests tests) = any_test test_has_pattern tests
stage_has_pattern _ = false

-- some stage has a pattern
abbrev pub stages_have_pattern : List StageForm → Bool
stages_have_pattern stages = list_any stage_has_pattern stages

-- a stage is a parser
abbrev pub parses : StageForm → Bool
parses (by_parser parser) = true
parses _ = false

-- how many parsers there are
abbrev pub parsers_of : List StageForm → ℕ
parsers_of stages = count_by parses stages

-- how many label tests a stage has
abbrev pub tests_of : StageForm → ℕ
tests_of (by_tests tests) = count_tests tests
tests_of _ = 0

abbrev pub label_tests : List StageForm → ℕ
label_tests stages = sum_by tests_of stages

abbrev pub range_has_pattern : RangeForm → Bool
range_has_pattern range = has_pattern range.matchers || stages_have_pattern range.stages

abbrev pub query_has_pattern : QueryForm → Bool
query_has_pattern query = range_has_pattern query.left.range || option_map_or (λ term. range_has_pattern term.range) query.over false

-- the stages and the label tests of both terms
abbrev pub all_stages : QueryForm → ℕ
all_stages query = length query.left.range.stages + option_map_or (λ term. length term.range.stages) query.over 0

abbrev pub all_label_tests : QueryForm → ℕ
all_label_tests query = label_tests query.left.range.stages + option_map_or (λ term. label_tests term.range.stages) query.over 0

-- a term has no more vector aggregations than it may
abbrev pub is_nested : TermForm → Bool
is_nested term = nat_le (length term.aggregations) most_aggregations

abbrev pub are_nested : QueryForm → Bool
are_nested query = is_nested query.left && option_map_or is_nested query.over true

pub record SieveForm : Type 0 where
  pub matchers : List MatcherForm
  pub filters : List FilterForm

abbrev pub sieve_form : Sieve → SieveForm
sieve_form sieve = record { matchers = map matcher_form sieve.selector.matchers; filters = map filter_form sieve.filters }

abbrev pub sieve_has_pattern : SieveForm → Bool
sieve_has_pattern sieve = has_pattern sieve.matchers || filters_have_pattern sieve.filters
