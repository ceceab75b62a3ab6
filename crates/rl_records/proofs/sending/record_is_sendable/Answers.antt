use denote.Param.Send.{sendable}
use Rattle.rl_records.proofs.Crossing.{crosses}
use Rattle.rl_records.proofs.sending.record_is_sendable.Goals as goal

pub is_sendable-requires-send-T : goal.is_sendable-requires-send-T
is_sendable-requires-send-T c κs = search (crosses, sendable) depth 20
