-- Ratios and thresholds of vectors.
use Rattle.std.specs.Prelude.{ℕ, ◌*◌, ◌+◌, ◌-◌, ◌^◌, ◌==◌, Bool, List, [], ◌∷◌, Option, Some, None, option_and_then, option_map, option_to_list, flat_map, if◌then◌else◌}
use Rattle.std.specs.List.{filter, find}
use Rattle.std.specs.Ordering.{is_lt, nat_cmp}
use Rattle.rl_labels.specs.Decimals.{DecimalForm}
use Rattle.rl_labels.specs.LabelSet.{LabelSet}
use Rattle.rl_labels.specs.LabelText.{label_set_cmp, label_set_eq}
use Rattle.rl_pipeline.specs.QuantityTests.{holds}
use Rattle.rl_query.specs.declared.aggregation.Threshold.{Threshold}
use Rattle.rl_query.specs.declared.quantity_test.Comparison.{Comparison}
use Rattle.rl_aggregate.specs.declared.outcome.Fraction.{Fraction}
use Rattle.rl_aggregate.specs.declared.outcome.Sample.{Sample}

-- (a/b) / (c/d) is (a*d) / (b*c), and none where c is 0
abbrev pub quotient : Fraction → Fraction → Option Fraction
quotient value divisor = if divisor.numerator == 0 then None else Some (record { numerator = value.numerator * divisor.denominator; denominator = value.denominator * divisor.numerator })

-- the sample of a vector with the labels of another
abbrev pub partner : List Sample → Sample → Option Sample
partner samples sample = find (λ other. label_set_eq sample.labels other.labels) samples

-- the value of a sample over that of its partner, if it has one that is not 0
abbrev pub value_over : List Sample → Sample → Option Fraction
value_over divisors sample = option_and_then (λ divisor. quotient sample.value divisor.value) (partner divisors sample)

-- the sample with that value
abbrev pub ratio_of : List Sample → Sample → Option Sample
ratio_of divisors sample = option_map (λ value. record { labels = sample.labels; value = value }) (value_over divisors sample)

-- each sample over its partner
abbrev pub ratios : List Sample → List Sample → List Sample
ratios samples divisors = flat_map (λ sample. option_to_list (ratio_of divisors sample)) samples

-- of samples in order, those from the first on that does not stand before a label set
abbrev pub not_before : LabelSet → List Sample → List Sample
not_before labels [] = []
not_before labels (sample ∷ samples) = if is_lt (label_set_cmp sample.labels labels) then not_before labels samples else sample ∷ samples

-- a threshold in millionths
abbrev pub millionths : DecimalForm → ℕ
millionths value = value.whole * 1000000 + value.fraction * 10 ^ (6 - value.digits)

-- n/m compared with a threshold of p millionths: n * 1000000 with p * m
abbrev pub passes : Comparison → (threshold : ℕ) → Fraction → Bool
passes comparison threshold value = holds comparison (nat_cmp (value.numerator * 1000000) (threshold * value.denominator))

-- the samples whose values pass
abbrev pub tested : Threshold → List Sample → List Sample
tested test samples = filter (λ sample. passes test.comparison (millionths test.value) sample.value) samples
