-- Vector aggregations and thresholds: which ones a query may have.
use Rattle.std.specs.Prelude.{ℕ, ◌==◌, nat_lt, nat_le, Bool, true, ◌&&◌, ◌^◌, List, Option, Some, None, option_and_then, if◌then◌else◌}
use Rattle.std.specs.List.{list_all}
use Rattle.rl_labels.specs.Decimals.{DecimalForm, decimal_of}
use Rattle.rl_labels.specs.QuantityTexts.{is_decimal}
use Rattle.rl_labels.specs.Name.{is_name}
use Rattle.rl_query.specs.declared.aggregation.Grouping.{Grouping}
use Rattle.rl_query.specs.declared.aggregation.Grouping.TheVariants as groupings
use Rattle.rl_query.specs.declared.aggregation.VectorOperator.{VectorOperator}
use Rattle.rl_query.specs.declared.aggregation.VectorOperator.TheVariants as operators

-- how many samples topk may keep
abbrev pub is_top : ℕ → Bool
is_top k = nat_le 1 k && nat_le k 65535

abbrev pub is_operator : VectorOperator → Bool
is_operator (operators.Topk k) = is_top k
is_operator _ = true

-- each name is one that a label may have
abbrev pub is_grouping : Grouping → Bool
is_grouping groupings.All = true
is_grouping (groupings.By names) = list_all is_name names
is_grouping (groupings.Without names) = list_all is_name names

-- at most nine digits in front of the point, and six after it
abbrev pub is_threshold : DecimalForm → Bool
is_threshold value = is_decimal value && (nat_lt value.whole (10 ^ 9) && nat_le value.digits 6)

-- the threshold that a number writes, with no more digits than that
abbrev pub threshold_of : List ℕ → Option DecimalForm
threshold_of number = option_and_then (λ value. if nat_le value.digits 6 then Some value else None) (decimal_of 9 number)

-- how many samples topk keeps, read from a number without a point
abbrev pub top_of : List ℕ → Option ℕ
top_of number = option_and_then (λ value. if value.digits == 0 && is_top value.whole then Some value.whole else None) (decimal_of 15 number)
