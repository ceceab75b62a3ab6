use denote.Param.Send.{sendable}
use Rattle.rl_parts.proofs.Crossing.{crosses}
use Rattle.rl_parts.proofs.sending.stream_is_sendable.Goals as goal

pub is_sendable-requires-send-T : goal.is_sendable-requires-send-T
is_sendable-requires-send-T c κs = search (crosses, sendable)
