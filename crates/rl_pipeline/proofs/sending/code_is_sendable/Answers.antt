use denote.Param.Send.{sendable}
use Rattle.rl_pipeline.proofs.Crossing.{crosses}
use Rattle.rl_pipeline.proofs.sending.code_is_sendable.Goals as goal

pub is_sendable-requires-send-T : goal.is_sendable-requires-send-T
is_sendable-requires-send-T c κs = search (crosses, sendable) depth 20

pub is_sendable-requires-2-send-T : goal.is_sendable-requires-2-send-T
is_sendable-requires-2-send-T c κs = search (crosses, sendable) depth 20
