-- The canonical text of a query.
use Rattle.rl_query.specs.TestPrinting.{tests_text}
use Rattle.rl_query.specs.Form.{by_tests, MatcherForm, RangeForm, AggregationForm, TermForm, ThresholdForm, QueryForm, FilterForm, StageForm, by_filter, by_parser, SieveForm}
use Rattle.std.specs.Prelude.{ℕ, List, [], ◌∷◌, ◌++◌, Option, Some, None, codes}
use Rattle.rl_labels.specs.QuantityTexts.{decimal_text}
use Rattle.rl_query.specs.declared.aggregation.Grouping.{Grouping}
use Rattle.rl_query.specs.declared.aggregation.Grouping.TheVariants as groupings
use Rattle.rl_query.specs.declared.aggregation.VectorOperator.{VectorOperator}
use Rattle.rl_query.specs.declared.aggregation.VectorOperator.TheVariants as operators
use Rattle.std.specs.List.{flat_map}
use Rattle.std.specs.Fmt.{decimal}
use Rattle.rl_query.specs.declared.filter.LineOp.{LineOp}
use Rattle.rl_query.specs.declared.filter.LineOp.TheVariants as lines
use Rattle.rl_query.specs.declared.stages.Parser.{Parser}
use Rattle.rl_query.specs.declared.stages.Parser.TheVariants as parsers
use Rattle.rl_plain.specs.Escapes.{escaped}
use Rattle.rl_query.specs.Tables.{escapes, function_text, operator_word, sign_text, comparison_sign}
use Rattle.rl_query.specs.MatcherPrinting.{matcher_text}

-- the matchers in their order, joined by a comma and a space
abbrev pub matchers_text : List MatcherForm → List ℕ
matchers_text [] = []
matchers_text (matcher ∷ matchers) = matcher_text matcher ++ flat_map (λ other. codes ", " ++ matcher_text other) matchers

abbrev pub filter_op_text : LineOp → List ℕ
filter_op_text lines.Contains = codes "|="
filter_op_text lines.Lacks = codes "!="
filter_op_text lines.Matches = codes "|~"
filter_op_text lines.NotMatches = codes "!~"

-- |= "text"
abbrev pub filter_print : FilterForm → List ℕ
filter_print filter = filter_op_text filter.op ++ codes " \"" ++ escaped escapes filter.text ++ codes "\""

-- each line filter after a space
abbrev pub filters_text : List FilterForm → List ℕ
filters_text filters = flat_map (λ filter. codes " " ++ filter_print filter) filters

abbrev pub parser_text : Parser → List ℕ
parser_text parsers.Json = codes "json"
parser_text parsers.Logfmt = codes "logfmt"

-- a line filter, a parser as in | json, or label tests after a pipe
abbrev pub stage_print : StageForm → List ℕ
stage_print (by_filter filter) = filter_print filter
stage_print (by_parser parser) = codes "| " ++ parser_text parser
stage_print (by_tests tests) = codes "| " ++ tests_text tests

-- each stage after a space
abbrev pub stages_text : List StageForm → List ℕ
stages_text stages = flat_map (λ stage. codes " " ++ stage_print stage) stages

-- {a="x", b="y"} |= "text" | json [300s]
abbrev pub range_text : RangeForm → List ℕ
range_text range = codes "{" ++ matchers_text range.matchers ++ codes "}" ++ stages_text range.stages ++ codes " [" ++ decimal range.seconds ++ codes "s]"

-- the names joined by a comma and a space
abbrev pub names_text : List (List ℕ) → List ℕ
names_text [] = []
names_text (name ∷ names) = name ++ flat_map (λ other. codes ", " ++ other) names

abbrev pub grouping_text : Grouping → List ℕ
grouping_text groupings.All = []
grouping_text (groupings.By names) = codes " by (" ++ names_text names ++ codes ") "
grouping_text (groupings.Without names) = codes " without (" ++ names_text names ++ codes ") "

-- the number of samples that topk keeps
abbrev pub parameter_text : VectorOperator → List ℕ
parameter_text (operators.Topk k) = decimal k ++ codes ", "
parameter_text _ = []

-- sum( · sum by (a, b) ( · topk(3, · topk by (a) (3,
abbrev pub aggregation_text : AggregationForm → List ℕ
aggregation_text aggregation = operator_word aggregation.operator ++ grouping_text aggregation.grouping ++ codes "(" ++ parameter_text aggregation.operator

-- vector aggregations around a text, the outermost first
abbrev pub nest_text : List AggregationForm → List ℕ → List ℕ
nest_text [] inside = inside
nest_text (aggregation ∷ aggregations) inside = aggregation_text aggregation ++ nest_text aggregations inside ++ codes ")"

-- count_over_time({a="x"} [300s])
abbrev pub bare_text : TermForm → List ℕ
bare_text term = function_text term.function ++ codes "(" ++ range_text term.range ++ codes ")"

abbrev pub term_text : TermForm → List ℕ
term_text term = nest_text term.aggregations (bare_text term)

-- after a term: the divisor
abbrev pub over_text : Option TermForm → List ℕ
over_text None = []
over_text (Some term) = codes " / " ++ term_text term

-- and the threshold
abbrev pub threshold_text : Option ThresholdForm → List ℕ
threshold_text None = []
threshold_text (Some threshold) = codes " " ++ sign_text (comparison_sign threshold.comparison) ++ codes " " ++ decimal_text threshold.value

abbrev pub query_text : QueryForm → List ℕ
query_text query = term_text query.left ++ over_text query.over ++ threshold_text query.test

-- {a="x", b="y"} |= "text"
abbrev pub sieve_text : SieveForm → List ℕ
sieve_text sieve = codes "{" ++ matchers_text sieve.matchers ++ codes "}" ++ filters_text sieve.filters
