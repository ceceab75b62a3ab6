-- A pass, by its parts.
use denote.Param.Send.{IsSend, param_send}
use Rattle.rl_workers.specs.contracts.pass.Pass as Pass
use Rattle.rl_workers.specs.contracts.sending.pass_is_sendable.{P-row}
use Rattle.rl_workers.proofs.Crossing.{Pass-send}
use Rattle.rl_workers.proofs.sending.pass_is_sendable.Goals as goal

pub is_sendable-requires-send-T : goal.is_sendable-requires-send-T
is_sendable-requires-send-T g c κs within =
    let pass : IsSend (Pass.the_row (P-row g.row.P) g.P.Crew g.P.Ledger) = Pass-send (P-row g.row.P) g.P.Crew g.P.Ledger in
    record { owned = (param_send 0 _ pass).owned; leaving = (param_send 0 _ pass).leaving }
