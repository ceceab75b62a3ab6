-- Samples as they are recorded: under their final label sets, and in order.
use Rattle.std.specs.Prelude.{Bool, false, ◌||◌, List, [], ◌∷◌}
use Rattle.std.specs.declared.cmp.Ordering.{Ordering}
use Rattle.rl_labels.specs.LabelText.{label_set_cmp, label_set_eq}
use Rattle.rl_aggregate.specs.declared.outcome.Sample.{Sample}
use Rattle.rl_rules.specs.Naming.{Naming, final_by}
use Rattle.rl_rules.specs.Outcomes.{final_labels}
use Rattle.rl_rules.specs.declared.rule.Rule.{Rule}

-- a sample under its final label set
abbrev pub named : Rule → Sample → Sample
named rule sample = record { labels = final_labels rule sample.labels; value = sample.value }

-- a sample under that label set, by what this takes of a rule
abbrev pub named_by : Naming → Sample → Sample
named_by naming sample = record { labels = final_by naming sample.labels; value = sample.value }

-- by label set
abbrev pub sample_cmp : Sample → Sample → Ordering
sample_cmp sample other = label_set_cmp sample.labels other.labels

-- two neighbours have one label set
abbrev pub has_same_neighbours : List Sample → Bool
has_same_neighbours [] = false
has_same_neighbours (sample ∷ []) = false
has_same_neighbours (sample ∷ next ∷ samples) = label_set_eq sample.labels next.labels || has_same_neighbours (next ∷ samples)
