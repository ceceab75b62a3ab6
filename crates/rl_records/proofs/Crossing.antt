-- Records may be sent to another thread.
use denote.Param.Send.{IsSend, IsSync, sendable, view_send}
use Rattle.std.proofs.Crossing as heap
use Rattle.rl_plain.proofs.list.PlainList.TheSendSync as list
use Rattle.rl_plain.proofs.shared.Shared.TheSendSync as shared
use Rattle.rl_plain.proofs.text.PlainText.TheSendSync as text
use Rattle.rl_labels.proofs.entry.Entry.TheSendSync as entry
use Rattle.rl_query.proofs.Crossing as queries
use Rattle.rl_aggregate.proofs.partial.Partial.TheSendSync as partial
use Rattle.rl_records.specs.contracts.record.Record as Record
use Rattle.rl_records.specs.contracts.sieve_text.SieveText as SieveText
use Rattle.rl_records.specs.contracts.sieve_text.SieveText.TheInside as sieve_text
use Rattle.rl_records.specs.contracts.step.ShardReply as ShardReply
use Rattle.rl_records.specs.contracts.step.ShardStep as ShardStep
use Rattle.rl_records.specs.contracts.terms.Terms as Terms
use Rattle.rl_records.specs.contracts.terms.Terms.TheInside as terms

terms-send : IsSend terms.the_row
terms-send = search (queries.crosses, text.the_send, text.the_sync, sendable, heap.crosses) depth 20

pub Terms-send : IsSend Terms.the_row
Terms-send = view_send _ _ _ _ _ terms-send

sieve_text-send : IsSend sieve_text.the_row
sieve_text-send = search (queries.crosses, text.the_send, text.the_sync, sendable, heap.crosses) depth 20

pub SieveText-send : IsSend SieveText.the_row
SieveText-send = view_send _ _ _ _ _ sieve_text-send

ShardStep_field-send : IsSend (ShardStep.the_field).row
ShardStep_field-send = let terms = Terms-send in let sieve = SieveText-send in
    search (entry.the_send, entry.the_sync, shared.the_send, sendable, heap.crosses) depth 20

ShardReply_field-send : IsSend (ShardReply.the_field).row
ShardReply_field-send = search (partial.the_send, partial.the_sync, list.the_send, shared.the_send, sendable, heap.crosses) depth 20

pub Record-send : IsSend Record.the_row
Record-send = let step = ShardStep_field-send in let reply = ShardReply_field-send in search (sendable, heap.crosses) depth 20

-- with this `search` shows that a type which holds records may be sent
pub ruleset crosses = (Record-send)
