-- Groups and evaluations may be sent to another thread, and looked at from two.
use denote.Struct.Declared.{shape}
use denote.Param.Send.{IsSend, IsSync, sendable, view_send, recorded_send, struct_send}
use Rattle.std.proofs.Crossing as heap
use Rattle.rl_plain.proofs.list.PlainList.TheSendSync as list
use Rattle.rl_plain.proofs.shared.Shared.TheSendSync as shared
use Rattle.rl_plain.proofs.text.PlainText.TheSendSync as text
use Rattle.rl_labels.proofs.labels.Labels.TheSendSync as labels
use Rattle.rl_query.proofs.Crossing as queries
use Rattle.rl_aggregate.proofs.outcome.Outcome.TheSendSync as outcome
use Rattle.rl_aggregate.proofs.partial.Partial.TheSendSync as partial
use Rattle.rl_rules.proofs.alert.Alert.TheSendSync as alert
use Rattle.rl_rules.proofs.evaluation.Evaluation.TheSendSync as evaluation
use Rattle.rl_rules.proofs.rule.RuleKind.TheSendSync as kind
use Rattle.rl_plain.specs.contracts.list.PlainList as PlainList
use Rattle.rl_rules.specs.contracts.alert.Alert as Alert
use Rattle.rl_aggregate.specs.contracts.finishing.OutcomeCache as OutcomeCache
use Rattle.rl_rules.specs.contracts.kept.KeptRule as KeptRule
use Rattle.rl_rules.specs.contracts.kept.KeptRule.TheInside as inside
use Rattle.rl_rules.specs.contracts.naming.LabelSetCache as LabelSetCache
use Rattle.rl_rules.specs.contracts.rule.Group as Group
use Rattle.rl_rules.specs.contracts.rule.Rule as Rule

pub Rule-send : IsSend Rule.the_row
Rule-send = search (queries.crosses, kind.the_field_send, labels.the_send, text.the_send, list.the_send, sendable, heap.crosses) depth 20

pub Rule-sync : IsSync Rule.the_row
Rule-sync = search (queries.crosses, kind.the_field_sync, labels.the_sync, text.the_sync, list.the_sync, sendable, heap.crosses) depth 20

pub Group-send : IsSend Group.the_row
Group-send = let rule = Rule-send in search (text.the_send, list.the_send, sendable, heap.crosses) depth 20

pub Group-sync : IsSync Group.the_row
Group-sync = let rule = Rule-sync in search (text.the_sync, list.the_sync, sendable, heap.crosses) depth 20

LabelSetCache-send : IsSend LabelSetCache.the_row
LabelSetCache-send = search (kind.the_field_send, labels.the_send, text.the_send, list.the_send, sendable, heap.crosses) depth 20

pub KeptRule-send : IsSend KeptRule.the_row
KeptRule-send =
    let alerts : IsSend (PlainList.the_field Alert.the_row).row = search (alert.the_send, list.the_send, sendable, heap.crosses) depth 20 in
    let outcomes : IsSend (OutcomeCache.the_field).row = search (outcome.the_field_send, partial.the_send, partial.the_sync, queries.crosses, shared.the_send, list.the_send, sendable, heap.crosses) depth 20 in
    let names : IsSend (LabelSetCache.the_field).row = search (LabelSetCache-send, sendable, heap.crosses) depth 20 in
    view_send _ _ _ _ _ (recorded_send (inside.the_field).row _ _ (inside.the_type).to_one (struct_send (shape inside.the_type) (alerts, (outcomes, (names, tt)))))

-- with these `search` shows that a type which holds groups or evaluations may be sent, and looked at from two threads
pub ruleset crosses = (
  Rule-send,
  Rule-sync,
  Group-send,
  Group-sync,
  KeptRule-send,
  evaluation.the_send,
  evaluation.the_sync,
  list.the_send,
  list.the_sync,
  shared.the_send,
  shared.the_sync,
)
