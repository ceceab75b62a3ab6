-- Vector aggregations: the samples of a vector in groups, and what they give of each. The values of a vector have one divisor.
use Rattle.std.specs.Prelude.{ℕ, ◌==◌, nat_lt, min, max, Bool, false, not, List, [], ◌∷◌, length, map}
use Rattle.std.specs.List.{filter, list_any, list_all, count_by, sum_by}
use Rattle.std.specs.Ordering.{is_lt, nat_cmp, ordering_then}
use Rattle.std.specs.declared.cmp.Ordering.{Ordering}
use Rattle.std.specs.FinMap.{from_entries, entries}
use Rattle.std.specs.FinMap.Entries.{is_sorted}
use Rattle.rl_labels.specs.Name.{is_text}
use Rattle.rl_labels.specs.LabelSet.{LabelSet, labels_of, label_set_of}
use Rattle.rl_labels.specs.LabelText.{label_set_eq, label_set_cmp}
use Rattle.rl_query.specs.declared.aggregation.Grouping.{Grouping}
use Rattle.rl_query.specs.declared.aggregation.Grouping.TheVariants.{All, By, Without}
use Rattle.rl_query.specs.declared.aggregation.VectorOperator.{VectorOperator}
use Rattle.rl_query.specs.declared.aggregation.VectorOperator.TheVariants.{Sum, Count, Min, Max, Topk}
use Rattle.rl_query.specs.declared.aggregation.Aggregation.{Aggregation}
use Rattle.rl_aggregate.specs.GroupsMap.{GroupsMap}
use Rattle.rl_aggregate.specs.declared.outcome.Fraction.{Fraction}
use Rattle.rl_aggregate.specs.declared.outcome.Sample.{Sample}

-- a label decides the group of its sample
abbrev pub is_grouping_label : Grouping → (name : List ℕ) → Bool
is_grouping_label All name = false
is_grouping_label (By names) name = list_any (is_text name) names
is_grouping_label (Without names) name = not (list_any (is_text name) names)

-- the labels that all samples of a group have
abbrev pub group_of : Grouping → LabelSet → LabelSet
group_of grouping labels = label_set_of (filter (λ pair. is_grouping_label grouping pair.0) (labels_of labels))

-- a sample is in the group with these labels
abbrev pub is_in : Grouping → LabelSet → Sample → Bool
is_in grouping labels sample = label_set_eq labels (group_of grouping sample.labels)

-- the samples of a group
abbrev pub part : Grouping → LabelSet → List Sample → List Sample
part grouping labels samples = filter (is_in grouping labels) samples

-- the sum of the numerators
abbrev pub total : List Sample → ℕ
total samples = sum_by (λ sample. sample.value.numerator) samples

-- the divisor that the values of a vector have, 1 where there is none
abbrev pub divisor : List Sample → ℕ
divisor [] = 1
divisor (sample ∷ samples) = sample.value.denominator

-- the least and the greatest numerator
abbrev pub least : List Sample → ℕ
least [] = 0
least (sample ∷ []) = sample.value.numerator
least (sample ∷ other ∷ others) = min sample.value.numerator (least (other ∷ others))

abbrev pub greatest : List Sample → ℕ
greatest [] = 0
greatest (sample ∷ samples) = max sample.value.numerator (greatest samples)

-- what an operator gives of the samples of a group
abbrev pub group_value : VectorOperator → List Sample → Fraction
group_value Sum samples = record { numerator = total samples; denominator = divisor samples }
group_value Count samples = record { numerator = length samples; denominator = 1 }
group_value Min samples = record { numerator = least samples; denominator = divisor samples }
group_value Max samples = record { numerator = greatest samples; denominator = divisor samples }
group_value (Topk k) samples = record { numerator = greatest samples; denominator = divisor samples }

-- the value of each group, by its labels
abbrev pub groups : VectorOperator → Grouping → List Sample → GroupsMap
groups operator grouping samples = from_entries (map (λ sample. (group_of grouping sample.labels, group_value operator (part grouping (group_of grouping sample.labels) samples))) samples)

-- a sample with these labels and this value
abbrev pub sample_of : LabelSet × Fraction → Sample
sample_of entry = record { labels = entry.0; value = entry.1 }

-- a sample for each group, in the order of their labels
abbrev pub grouped : VectorOperator → Grouping → List Sample → List Sample
grouped operator grouping samples = map sample_of (entries (groups operator grouping samples))

-- the order of ranks: a greater value first, and of equal values a lesser label set
abbrev pub rank_cmp : Sample → Sample → Ordering
rank_cmp sample other = ordering_then (nat_cmp other.value.numerator sample.value.numerator) (label_set_cmp sample.labels other.labels)

-- a sample comes before another
abbrev pub comes_before : Sample → Sample → Bool
comes_before sample other = is_lt (rank_cmp sample other)

-- by label set
abbrev pub sample_cmp : Sample → Sample → Ordering
sample_cmp sample other = label_set_cmp sample.labels other.labels

-- fewer than k samples of its group come before a sample
abbrev pub is_among_first : (k : ℕ) → Grouping → List Sample → Sample → Bool
is_among_first k grouping samples sample = nat_lt (count_by (λ other. comes_before other sample) (part grouping (group_of grouping sample.labels) samples)) k

-- a vector aggregation of a vector
abbrev pub aggregated : VectorOperator → Grouping → List Sample → List Sample
aggregated Sum grouping samples = grouped Sum grouping samples
aggregated Count grouping samples = grouped Count grouping samples
aggregated Min grouping samples = grouped Min grouping samples
aggregated Max grouping samples = grouped Max grouping samples
aggregated (Topk k) grouping samples = filter (is_among_first k grouping samples) samples

-- vector aggregations, the outermost first
abbrev pub aggregated_by : List Aggregation → List Sample → List Sample
aggregated_by [] samples = samples
aggregated_by (aggregation ∷ aggregations) samples = aggregated aggregation.operator aggregation.grouping (aggregated_by aggregations samples)

-- the label sets rise, so each stands once
abbrev pub rises : List Sample → Bool
rises samples = is_sorted label_set_cmp (map (λ sample. (sample.labels, sample.value)) samples)

-- each value has the divisor
abbrev pub have_divisor : ℕ → List Sample → Bool
have_divisor n samples = list_all (λ sample. sample.value.denominator == n) samples

-- the divisor after an aggregation, and after several
abbrev pub divisor_after : VectorOperator → ℕ → ℕ
divisor_after Count n = 1
divisor_after _ n = n

abbrev pub divisor_by : List Aggregation → ℕ → ℕ
divisor_by [] n = n
divisor_by (aggregation ∷ aggregations) n = divisor_after aggregation.operator (divisor_by aggregations n)
