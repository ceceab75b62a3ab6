use denote.Param.Send.{sendable}
use Rattle.std.proofs.Crossing as heap
use Rattle.rl_rules.proofs.Crossing.{crosses}
use Rattle.rl_rules.proofs.sending.group_is_shareable.Goals as goal

pub is_shareable-requires-send-T : goal.is_shareable-requires-send-T
is_shareable-requires-send-T c κs = search (crosses, sendable, heap.crosses) depth 20

pub is_shareable-requires-sync-T : goal.is_shareable-requires-sync-T
is_shareable-requires-sync-T c κs = search (crosses, sendable, heap.crosses) depth 20

pub is_shareable-requires-2-send-T : goal.is_shareable-requires-2-send-T
is_shareable-requires-2-send-T c κs = search (crosses, sendable, heap.crosses) depth 20

pub is_shareable-requires-2-sync-T : goal.is_shareable-requires-2-sync-T
is_shareable-requires-2-sync-T c κs = search (crosses, sendable, heap.crosses) depth 20

pub is_shareable-requires-3-send-T : goal.is_shareable-requires-3-send-T
is_shareable-requires-3-send-T c κs = search (crosses, sendable, heap.crosses) depth 20

pub is_shareable-requires-3-sync-T : goal.is_shareable-requires-3-sync-T
is_shareable-requires-3-sync-T c κs = search (crosses, sendable, heap.crosses) depth 20

pub is_shareable-requires-4-send-T : goal.is_shareable-requires-4-send-T
is_shareable-requires-4-send-T c κs = search (crosses, sendable, heap.crosses) depth 20

pub is_shareable-requires-4-sync-T : goal.is_shareable-requires-4-sync-T
is_shareable-requires-4-sync-T c κs = search (crosses, sendable, heap.crosses) depth 20
