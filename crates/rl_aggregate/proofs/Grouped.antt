-- Groups of vectors: the next sample of a vector goes into its group.
use Rattle.std.proofs.Common.{◌≡◌, ℕ, ◌+◌, ◌-◌, ◌<◌, ◌^◌, List, [], ◌∷◌, ◌++◌, length, get_or, take, sym, ap, ◌∙◌, arith}
use Rattle.std.specs.FinMap.{get, insert}
use Rattle.std.proofs.lemmas.List.{take_more, length-take}
use Rattle.std.proofs.lemmas.List.Sums.{sum_by-take-le}
use Rattle.rl_labels.specs.LabelSet.{LabelSet}
use Rattle.rl_query.specs.declared.aggregation.Grouping.{Grouping}
use Rattle.rl_query.specs.declared.aggregation.VectorOperator.{VectorOperator}
use Rattle.rl_aggregate.specs.GroupsMap.{GroupsMap, with_value}
use Rattle.rl_aggregate.specs.Grouping.{group_of, groups, total}
use Rattle.rl_aggregate.specs.laws.Groups.{groups-push, numerator-next, most_total, most_total-within}
use Rattle.rl_aggregate.specs.declared.outcome.Sample.{Sample}

-- the samples up to the next are those before it, and it
next : (samples : List Sample) (i : ℕ) (sample : Sample) → i < length samples → sample ≡ get_or samples i sample → take i samples ++ sample ∷ [] ≡ take (i + 1) samples
next samples i sample within is = ap (λ s. take i samples ++ s ∷ []) is ∙ sym (take_more samples i sample within)

pub next_fits : (operator : VectorOperator) (g : Grouping) (samples : List Sample) (i : ℕ) (m : GroupsMap) (key : LabelSet) (sample : Sample) → i < length samples → sample ≡ get_or samples i sample → m ≡ groups operator g (take i samples) → key ≡ group_of g sample.labels → total samples < 2 ^ 128 → length samples < 2 ^ 64 → (with_value operator (get m key) sample.value).numerator < 2 ^ 128
next_fits operator g samples i m key sample within is so_far keyed sums short =
    let upto = next samples i sample within is in
    let before = groups operator g (take i samples) in
    let same : (with_value operator (get m key) sample.value).numerator ≡ (with_value operator (get before (group_of g sample.labels)) sample.value).numerator =
    λ j. (with_value operator (get (so_far j) (keyed j)) sample.value).numerator in
    omega (
      arith,
      same,
      numerator-next operator g (take i samples) sample,
      ap (most_total operator) upto,
      most_total-within (2 ^ 128 - 1) operator (take (i + 1) samples) (omega (arith, sum_by-take-le (λ s. s.value.numerator) samples (i + 1))) (omega (arith, length-take (i + 1) samples)),
    )

pub next_grouped : (operator : VectorOperator) (g : Grouping) (samples : List Sample) (i : ℕ) (m : GroupsMap) (key : LabelSet) (sample : Sample) → i < length samples → sample ≡ get_or samples i sample → m ≡ groups operator g (take i samples) → key ≡ group_of g sample.labels → insert m key (with_value operator (get m key) sample.value) ≡ groups operator g (take (i + 1) samples)
next_grouped operator g samples i m key sample within is so_far keyed =
    (λ j. insert (so_far j) (keyed j) (with_value operator (get (so_far j) (keyed j)) sample.value))
    ∙ sym (groups-push operator g (take i samples) sample)
    ∙ ap (groups operator g) (next samples i sample within is)
