-- Streams, by their parts.
use denote.Param.Send.{IsSend, param_send}
use Rattle.rl_streams.specs.contracts.streams.Streams as Streams
use Rattle.rl_streams.specs.contracts.sending.streams_is_sendable.{S-row}
use Rattle.rl_streams.proofs.Crossing.{Streams-send}
use Rattle.rl_streams.proofs.sending.streams_is_sendable.Goals as goal

pub is_sendable-requires-send-T : goal.is_sendable-requires-send-T
is_sendable-requires-send-T g c κs within =
    let streams : IsSend (Streams.the_row (S-row g.row.S) g.S.Store) = Streams-send (S-row g.row.S) g.S.Store c.type_bounds.send-S in
    record { owned = (param_send 0 _ streams).owned; leaving = (param_send 0 _ streams).leaving }
