-- Values by the labels of groups, and what one more sample makes of the value of its group.
use Rattle.std.specs.Prelude.{ℕ, ◌+◌, min, max, Option, None, Some, refl}
use Rattle.std.specs.Coded.{Coded, code_by, coded×, coded_ℕ}
use Rattle.std.specs.FinMap.{FinMap, code}
use Rattle.rl_labels.specs.LabelSet.{label_set_code}
use Rattle.rl_labels.specs.LabelText.{label_set_cmp}
use Rattle.rl_query.specs.declared.aggregation.VectorOperator.{VectorOperator}
use Rattle.rl_query.specs.declared.aggregation.VectorOperator.TheVariants.{Sum, Count, Min, Max, Topk}
use Rattle.rl_aggregate.specs.declared.outcome.Fraction.{Fraction}

abbrev pub GroupsMap : Type 0
GroupsMap = FinMap label_set_cmp Fraction

-- values as numbers, for a store
abbrev pub groups_code : Coded GroupsMap
groups_code = code label_set_code (code_by (ℕ × ℕ) (coded× coded_ℕ coded_ℕ) (λ v. (v.numerator, v.denominator)) (λ p. record { numerator = p.0; denominator = p.1 }) (λ _. refl))

-- the value of a group whose first sample has this value
abbrev pub first_value : VectorOperator → Fraction → Fraction
first_value Sum value = value
first_value Count value = record { numerator = 1; denominator = 1 }
first_value Min value = value
first_value Max value = value
first_value (Topk k) value = value

-- the value of a group with one more sample of a value after the others
abbrev pub next_value : VectorOperator → Fraction → Fraction → Fraction
next_value Sum group value = record { numerator = group.numerator + value.numerator; denominator = group.denominator }
next_value Count group value = record { numerator = group.numerator + 1; denominator = group.denominator }
next_value Min group value = record { numerator = min group.numerator value.numerator; denominator = group.denominator }
next_value Max group value = record { numerator = max group.numerator value.numerator; denominator = group.denominator }
next_value (Topk k) group value = record { numerator = max group.numerator value.numerator; denominator = group.denominator }

-- the value of a group with one more sample, which may be its first
abbrev pub with_value : VectorOperator → Option Fraction → Fraction → Fraction
with_value operator None value = first_value operator value
with_value operator (Some group) value = next_value operator group value

-- the numerator of a group's value, 0 where there is none
abbrev pub numerator_at : Option Fraction → ℕ
numerator_at None = 0
numerator_at (Some value) = value.numerator
