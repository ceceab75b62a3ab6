-- A caller that is counted, and a store that is, may be sent to another thread where what lies below may.
use denote.RattleType.{RattleType}
use denote.Param.Send.{IsSend, sendable}
use Rattle.std.proofs.Crossing as heap
use Rattle.rl_plain.proofs.text.PlainText.TheSendSync as text
use Rattle.rl_rules.proofs.evaluation.Cause.TheSendSync as cause
use Rattle.rl_session.specs.contracts.pumping.Pumping as Pumping
use Rattle.rule_shell.specs.contracts.counted.Counted as Counted
use Rattle.rule_shell.specs.contracts.counting.Counting as Counting
use Rattle.rule_shell.specs.contracts.tally.Reason as Reason
use Rattle.rule_shell.specs.contracts.tally.RuleFailures as RuleFailures
use Rattle.rule_shell.specs.contracts.tally.Tally as Tally

pub Counted-send : (T : RattleType) → IsSend T → IsSend (Counted.the_row T)
Counted-send T store = search (sendable, heap.crosses) depth 20

Reason-send : IsSend Reason.the_row
Reason-send = search (text.the_send, sendable, heap.crosses) depth 20

RuleFailures-send : IsSend RuleFailures.the_row
RuleFailures-send = search (cause.the_field_send, text.the_send, sendable, heap.crosses) depth 20

Tally-send : IsSend Tally.the_row
Tally-send =
    let reason = Reason-send in
    let failures = RuleFailures-send in
    search (sendable, heap.crosses) depth 20

pub Pumping-send : (T : RattleType) → IsSend T → IsSend (Pumping.the_row T)
Pumping-send T engine = search (sendable, heap.crosses) depth 20

pub Counting-send : (T : RattleType) → IsSend T → IsSend (Counting.the_row T)
Counting-send T engine =
    let tally : IsSend (Tally.the_field).row = search (Tally-send, sendable, heap.crosses) depth 20 in
    search (sendable, heap.crosses) depth 20
