-- What a sink is given of an evaluation, by its kind.
use Rattle.std.specs.Prelude.{ℕ, ◌==◌, Bool, true, false, List, [], ◌++◌, Option, None, Some, codes, if◌then◌else◌}
use Rattle.std.specs.List.{flat_map}
use Rattle.std.specs.Fmt.{decimal}
use Rattle.rl_labels.specs.LabelSet.{LabelSet}
use Rattle.rl_labels.specs.LabelText.{canonical_text}
use Rattle.rl_aggregate.specs.declared.outcome.Fraction.{Fraction}
use Rattle.rl_aggregate.specs.declared.outcome.Sample.{Sample}
use Rattle.rl_rules.specs.declared.alert.Alert.{Alert}
use Rattle.rl_rules.specs.declared.alert.AlertState.{AlertState}
use Rattle.rl_rules.specs.declared.alert.AlertState.TheVariants as states
use Rattle.rl_rules.specs.declared.rule.RuleKind.{RuleKind}
use Rattle.rl_rules.specs.declared.rule.RuleKind.TheVariants as kinds
use Rattle.rl_rules.specs.declared.evaluation.Evaluation.{Evaluation}
use Rattle.rl_rules.specs.declared.evaluation.RuleOutcome.{RuleOutcome}
use Rattle.rl_rules.specs.declared.evaluation.RuleOutcome.TheVariants as outcomes
use Rattle.rl_rules.specs.declared.evaluation.Cause.{Cause}
use Rattle.rl_rules.specs.declared.evaluation.Cause.TheVariants as causes
use Rattle.rl_sinks.specs.declared.sink.SinkKind.{SinkKind}
use Rattle.rl_sinks.specs.declared.sink.SinkKind.TheVariants as sinks

-- n where the divisor is 1, else n/d
abbrev pub value_text : Fraction → List ℕ
value_text value = if value.denominator == 1 then decimal value.numerator else decimal value.numerator ++ codes "/" ++ decimal value.denominator

-- labels and value
abbrev pub sample_text : Sample → List ℕ
sample_text sample = canonical_text sample.labels ++ codes " " ++ value_text sample.value

abbrev pub state_text : AlertState → List ℕ
state_text states.Pending = codes "pending"
state_text states.Firing = codes "firing"
state_text states.Resolved = codes "resolved"

-- state, labels, value, and the moment from which it is active
unfoldable pub alert_text : Alert → List ℕ
alert_text alert = state_text alert.state ++ codes " " ++ canonical_text alert.labels ++ codes " " ++ value_text alert.value ++ codes " " ++ decimal alert.active_at

abbrev pub cause_text : Cause → List ℕ
cause_text causes.PipelineError = codes "PipelineError"
cause_text causes.SameLabels = codes "SameLabels"
cause_text causes.LimitExceeded = codes "LimitExceeded"

-- a recorder's line of a sample, and of a recording rule that failed
abbrev pub recorded_line : ℕ → Sample → List ℕ
recorded_line t sample = sample_text sample ++ codes " " ++ decimal t ++ codes "\n"

abbrev pub failed_line : RuleKind → ℕ → Cause → List ℕ → List ℕ
failed_line kinds.Recording t cause name = codes "# failed " ++ decimal t ++ codes " " ++ cause_text cause ++ codes " " ++ name ++ codes "\n"
failed_line kinds.Alerting t cause name = []

abbrev pub recorded_lines : ℕ → RuleKind → List ℕ → RuleOutcome → List ℕ
recorded_lines t kind name (outcomes.Samples samples) = flat_map (recorded_line t) samples
recorded_lines t kind name (outcomes.Alerts alerts) = []
recorded_lines t kind name (outcomes.Failed cause) = failed_line kind t cause name

abbrev pub recorder_text : Evaluation → List ℕ
recorder_text evaluation = flat_map (λ rule. recorded_lines evaluation.t rule.kind rule.name rule.outcome) evaluation.outcomes

-- an alert that became firing at the moment, or is resolved
abbrev pub became_firing : ℕ → Option ℕ → Bool
became_firing t None = false
became_firing t (Some fired) = fired == t

abbrev pub is_notified : ℕ → AlertState → Option ℕ → Bool
is_notified t states.Pending fired = false
is_notified t states.Firing fired = became_firing t fired
is_notified t states.Resolved fired = true

-- a notifier's line of such an alert, with the annotations of its rule
unfoldable pub notified_line : ℕ → LabelSet → Alert → List ℕ
notified_line t annotations alert =
    if is_notified t alert.state alert.fired
    then alert_text alert ++ codes " " ++ decimal t ++ codes " " ++ canonical_text annotations ++ codes "\n"
    else []

abbrev pub notified_lines : ℕ → LabelSet → RuleOutcome → List ℕ
notified_lines t annotations (outcomes.Samples samples) = []
notified_lines t annotations (outcomes.Alerts alerts) = flat_map (notified_line t annotations) alerts
notified_lines t annotations (outcomes.Failed cause) = []

abbrev pub notifier_text : Evaluation → List ℕ
notifier_text evaluation = flat_map (λ rule. notified_lines evaluation.t rule.annotations rule.outcome) evaluation.outcomes

-- a tail's line of a sample, of an alert, and of a rule that failed
abbrev pub tail_line : Sample → List ℕ
tail_line sample = sample_text sample ++ codes "\n"

unfoldable pub alert_line : Alert → List ℕ
alert_line alert = alert_text alert ++ codes "\n"

abbrev pub tail_lines : List ℕ → RuleOutcome → List ℕ
tail_lines name (outcomes.Samples samples) = flat_map tail_line samples
tail_lines name (outcomes.Alerts alerts) = flat_map alert_line alerts
tail_lines name (outcomes.Failed cause) = codes "failed " ++ cause_text cause ++ codes " " ++ name ++ codes "\n"

-- the moment and the group, then the lines of the rules in their order
abbrev pub tail_text : Evaluation → List ℕ
tail_text evaluation = codes "eval " ++ decimal evaluation.t ++ codes " " ++ evaluation.group ++ codes "\n" ++ flat_map (λ rule. tail_lines rule.name rule.outcome) evaluation.outcomes

-- what a sink of the kind is given
abbrev pub evaluation_text : SinkKind → Evaluation → List ℕ
evaluation_text sinks.Recorder evaluation = recorder_text evaluation
evaluation_text sinks.Notifier evaluation = notifier_text evaluation
evaluation_text sinks.Tail evaluation = tail_text evaluation
