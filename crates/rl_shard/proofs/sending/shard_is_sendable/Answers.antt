-- A shard, by its parts.
use denote.Param.Send.{IsSend, param_send}
use Rattle.rl_shard.specs.contracts.shard.Shard as Shard
use Rattle.rl_shard.specs.contracts.sending.shard_is_sendable.{S-row}
use Rattle.rl_shard.proofs.Crossing.{Shard-send}
use Rattle.rl_shard.proofs.sending.shard_is_sendable.Goals as goal

pub is_sendable-requires-send-T : goal.is_sendable-requires-send-T
is_sendable-requires-send-T g c κs within =
    let shard : IsSend (Shard.the_row (S-row g.row.S) g.S.Store) = Shard-send (S-row g.row.S) g.S.Store c.type_bounds.send-S in
    record { owned = (param_send 0 _ shard).owned; leaving = (param_send 0 _ shard).leaving }
