-- What a rule makes of the outcome of its query.
use Rattle.std.specs.Prelude.{ℕ, nat_lt, Bool, false, ◌&&◌, ◌||◌, List, [], ◌∷◌, length, map, codes, if◌then◌else◌}
use Rattle.std.specs.List.{list_any}
use Rattle.std.specs.FinMap.{entries, from_entries}
use Rattle.rl_labels.specs.LabelSet.{Pair, LabelSet, with_label}
use Rattle.rl_labels.specs.LabelText.{label_set_cmp, label_set_eq}
use Rattle.rl_labels.specs.Name.{is_name}
use Rattle.rl_aggregate.specs.declared.outcome.Fraction.{Fraction}
use Rattle.rl_aggregate.specs.declared.outcome.Sample.{Sample}
use Rattle.rl_aggregate.specs.declared.outcome.Outcome.{Outcome}
use Rattle.rl_aggregate.specs.declared.outcome.Outcome.TheVariants as outcomes
use Rattle.rl_rules.specs.declared.rule.Rule.{Rule}
use Rattle.rl_rules.specs.declared.rule.RuleKind.{RuleKind}
use Rattle.rl_rules.specs.declared.rule.RuleKind.TheVariants as kinds
use Rattle.rl_rules.specs.declared.evaluation.RuleOutcome.{RuleOutcome}
use Rattle.rl_rules.specs.declared.evaluation.RuleOutcome.TheVariants as made
use Rattle.rl_rules.specs.declared.evaluation.RuleResult.{RuleResult}
use Rattle.rl_rules.specs.declared.evaluation.Cause.{Cause}
use Rattle.rl_rules.specs.declared.evaluation.Cause.TheVariants as causes
use Rattle.rl_rules.specs.declared.alert.Alert.{Alert}
use Rattle.rl_rules.specs.Alerts.{alerts_after}

-- the labels with a pair set, and without its name where its value is empty; what is no name names none
abbrev pub with_pair : LabelSet → Pair → LabelSet
with_pair labels pair = if is_name pair.0 then with_label labels pair.0 pair.1 else labels

-- with one pair after another
abbrev pub with_pairs : LabelSet → List Pair → LabelSet
with_pairs labels [] = labels
with_pairs labels (pair ∷ pairs) = with_pairs (with_pair labels pair) pairs

-- the label that has the name of what a rule makes
abbrev pub name_label : RuleKind → List ℕ
name_label kinds.Recording = codes "__name__"
name_label kinds.Alerting = codes "alertname"

-- the labels of a sample, the rule's over them, and its name over all
abbrev pub final_labels : Rule → LabelSet → LabelSet
final_labels rule labels = with_label (with_pairs labels rule.labels) (name_label rule.kind) rule.name

-- the samples under their final label sets
abbrev pub final_samples : Rule → List Sample → List (LabelSet × Fraction)
final_samples rule samples = map (λ sample. (final_labels rule sample.labels, sample.value)) samples

-- two of the samples have one label set
abbrev pub has_same_labels : List (LabelSet × Fraction) → Bool
has_same_labels [] = false
has_same_labels (sample ∷ samples) = list_any (λ other. label_set_eq sample.0 other.0) samples || has_same_labels samples

-- as samples, in the order of their label sets
abbrev pub in_order : List (LabelSet × Fraction) → List Sample
in_order samples = map (λ sample. record { labels = sample.0; value = sample.1 }) (entries (from_entries {R = label_set_cmp} samples))

-- `count` samples are more than the limit; 0 is no limit
abbrev pub is_exceeded : ℕ → ℕ → Bool
is_exceeded limit count = nat_lt 0 limit && nat_lt limit count

-- what a rule makes of samples with different label sets, in order
abbrev pub made_by : RuleKind → ℕ → List Alert → ℕ → List Sample → RuleOutcome
made_by kinds.Recording hold alerts t samples = made.Samples samples
made_by kinds.Alerting hold alerts t samples = made.Alerts (alerts_after hold t samples alerts)

-- what is made of samples, if they are not too many and no two have one label set
abbrev pub outcome_of : ℕ → (List Sample → RuleOutcome) → List (LabelSet × Fraction) → RuleOutcome
outcome_of limit make samples =
    if has_same_labels samples then made.Failed causes.SameLabels
    else (if is_exceeded limit (length samples) then made.Failed causes.LimitExceeded else make (in_order samples))

-- what a rule of a group with this limit, which has these alerts, makes of an outcome at a moment
abbrev pub rule_outcome : Rule → ℕ → List Alert → Outcome → ℕ → RuleOutcome
rule_outcome rule limit alerts (outcomes.Vector samples) t = outcome_of limit (made_by rule.kind rule.hold alerts t) (final_samples rule samples)
rule_outcome rule limit alerts outcomes.Failed t = made.Failed causes.PipelineError

-- the alerts that a rule keeps where it failed: none where its samples were too many
abbrev pub kept_at : Cause → List Alert → List Alert
kept_at causes.PipelineError alerts = alerts
kept_at causes.SameLabels alerts = alerts
kept_at causes.LimitExceeded alerts = []

-- the alerts that an outcome leaves to a rule that had these
abbrev pub alerts_left : List Alert → RuleOutcome → List Alert
alerts_left alerts (made.Samples samples) = []
alerts_left alerts (made.Alerts now) = now
alerts_left alerts (made.Failed cause) = kept_at cause alerts

-- the step of a rule: its alerts from then on, and what it made
abbrev pub rule_step : Rule → ℕ → List Alert → Outcome → ℕ → List Alert × RuleOutcome
rule_step rule limit alerts outcome t = (alerts_left alerts (rule_outcome rule limit alerts outcome t), rule_outcome rule limit alerts outcome t)

-- what a rule of a group with this limit, which has these alerts, gives at a moment of the outcome of its query
abbrev pub result_of : ℕ → ℕ → Rule → List Alert → Outcome → RuleResult
result_of limit t rule alerts outcome = record { kind = rule.kind; name = rule.name; annotations = rule.annotations; outcome = rule_outcome rule limit alerts outcome t }
