use denote.Param.Send.{sendable}
use Rattle.rl_labels.proofs.Crossing.{crosses}
use Rattle.rl_labels.proofs.sending.code_is_sendable.Goals as goal

pub is_sendable-requires-send-T : goal.is_sendable-requires-send-T
is_sendable-requires-send-T c κs = search (crosses, sendable)

pub is_sendable-requires-2-send-T : goal.is_sendable-requires-2-send-T
is_sendable-requires-2-send-T c κs = search (crosses, sendable)
