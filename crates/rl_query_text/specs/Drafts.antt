-- What is read before it is known that it keeps its limits: what it is, and what these are.
use Rattle.std.specs.Prelude.{◌≡◌, ℕ, ◌+◌, ◌≤◌, true, length, map, Option, Some, None, option_map}
use Rattle.std.specs.Option.{option_map_or}
use Rattle.rl_query_text.specs.declared.draft.DraftRange.{DraftRange}
use Rattle.rl_query_text.specs.declared.draft.DraftTerm.{DraftTerm}
use Rattle.rl_query_text.specs.declared.draft.DraftQuery.{DraftQuery}
use Rattle.rl_query.specs.Form.{RangeForm, TermForm, QueryForm, matcher_form, stage_form, aggregation_form, threshold_form}
use Rattle.rl_query.specs.Limits.{longest_range, most_aggregations, most_stages, most_tests}
use Rattle.rl_query.specs.Stages.{count_parsers, count_label_tests, are_shallow_in}

abbrev pub range_draft : DraftRange → RangeForm
range_draft range = record { matchers = map matcher_form range.selector.matchers; stages = map stage_form range.stages.items; seconds = range.seconds }

abbrev pub term_draft : DraftTerm → TermForm
term_draft term = record { aggregations = map aggregation_form term.aggregations.items; function = term.function; range = range_draft term.range }

abbrev pub query_draft : DraftQuery → QueryForm
query_draft query = record { left = term_draft query.left; over = option_map term_draft query.over; test = option_map threshold_form query.test }

-- the facts of a range, of a term and of a query
pub record KeepsRange (range : DraftRange) : Type 0 where
  pub few : length range.stages.items ≤ most_stages
  pub one_parser : count_parsers range.stages.items ≤ 1
  pub few_tests : count_label_tests range.stages.items ≤ most_tests
  pub in_range : (1 ≤ range.seconds) × (range.seconds ≤ longest_range)

pub record KeepsTerm (term : DraftTerm) : Type 0 where
  pub range : KeepsRange term.range
  pub nested : length term.aggregations.items ≤ most_aggregations
  pub shallow : are_shallow_in term.aggregations.items term.range.stages.items ≡ true

abbrev pub KeepsOver : Option DraftTerm → Type 0
KeepsOver None = Unit {0}
KeepsOver (Some term) = KeepsTerm term

abbrev pub stages_read : DraftTerm → ℕ
stages_read term = length term.range.stages.items

abbrev pub tests_read : DraftTerm → ℕ
tests_read term = count_label_tests term.range.stages.items

pub record KeepsQuery (query : DraftQuery) : Type 0 where
  pub left : KeepsTerm query.left
  pub over : KeepsOver query.over
  pub few : stages_read query.left + option_map_or stages_read query.over 0 ≤ most_stages
  pub few_tests : tests_read query.left + option_map_or tests_read query.over 0 ≤ most_tests
