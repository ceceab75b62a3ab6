-- What vectors have in common: their samples are in the order of their label sets, and their values are within limits.
use Rattle.std.specs.Prelude.{◌≡◌, ℕ, ◌<◌, ◌≤◌, ◌^◌, true, List, [], ◌∷◌, length, ⊤}
use Rattle.std.specs.List.{AllByRecursion}
use Rattle.std.specs.declared.cmp.Ordering.TheVariants.{Less}
use Rattle.rl_labels.specs.LabelText.{label_set_cmp}
use Rattle.rl_query.specs.Limits.{longest_range}
use Rattle.rl_aggregate.specs.Grouping.{total, rises, have_divisor}
use Rattle.rl_aggregate.specs.declared.outcome.Sample.{Sample}

-- each sample stands before the later ones by its label set
abbrev pub AreInOrder : List Sample → Type 0
AreInOrder [] = ⊤
AreInOrder (sample ∷ samples) = AllByRecursion (λ other. label_set_cmp sample.labels other.labels ≡ Less) samples × AreInOrder samples

-- a value that one term gives: of all bytes that may be held, over a range
abbrev pub IsOfOneTerm : Sample → Type 0
IsOfOneTerm sample = (sample.value.numerator < 2 ^ 46) × (sample.value.denominator ≤ longest_range)

-- a value that a term gives, or the ratio of two
abbrev pub IsOfQuery : Sample → Type 0
IsOfQuery sample = (sample.value.numerator < 2 ^ 68) × (sample.value.denominator < 2 ^ 68)

-- a vector that one term gives, aggregated or not: its label sets rise, its values have one divisor, and it is within what a term adds up to
pub record AreOfOneTerm (n : ℕ) (samples : List Sample) : Type 0 where
  pub order : rises samples ≡ true
  pub divisors : have_divisor n samples ≡ true
  pub divisor : n ≤ longest_range
  pub few : length samples ≤ 2 ^ 30
  pub sum : total samples < 2 ^ 46
