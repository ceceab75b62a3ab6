-- What final label sets are made by, and pairs of label sets of which one is the other's final one.
use Rattle.std.specs.Prelude.{◌≡◌, ℕ, List}
use Rattle.std.specs.List.{AllByRecursion}
use Rattle.rl_labels.specs.LabelSet.{Pair, LabelSet, with_label}
use Rattle.rl_rules.specs.Outcomes.{name_label, with_pairs}
use Rattle.rl_rules.specs.declared.rule.Rule.{Rule}
use Rattle.rl_rules.specs.declared.rule.RuleKind.{RuleKind}

-- what a final label set takes of a rule
pub record Naming : Type 0 where
  pub kind : RuleKind
  pub name : List ℕ
  pub labels : List Pair

abbrev pub naming_of : Rule → Naming
naming_of rule = record { kind = rule.kind; name = rule.name; labels = rule.labels }

-- the final label set by it
abbrev pub final_by : Naming → LabelSet → LabelSet
final_by naming labels = with_label (with_pairs labels naming.labels) (name_label naming.kind) naming.name

abbrev pub AreFinal : Naming → List (LabelSet × LabelSet) → Type 0
AreFinal naming pairs = AllByRecursion (λ pair. pair.1 ≡ final_by naming pair.0) pairs
