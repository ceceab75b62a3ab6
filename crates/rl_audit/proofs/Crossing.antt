-- Notes may be sent to another thread.
use denote.Param.Send.{IsSend, sendable}
use Rattle.std.proofs.Crossing as heap
use Rattle.rl_audit.specs.contracts.receipt.Note as Note
use Rattle.rl_rules.proofs.Crossing as groups

pub Note-send : IsSend Note.the_row
Note-send = search (groups.crosses, sendable, heap.crosses) depth 20
