-- A ruler, by its parts.
use denote.Param.Send.{IsSend, IsSync, param_send, param_sync}
use Rattle.rl_workers.specs.contracts.ruler.Ruler as Ruler
use Rattle.rl_workers.specs.contracts.sending.ruler_is_shareable as rows
use Rattle.rl_workers.proofs.Crossing.{Ruler-send, Ruler-sync}
use Rattle.rl_workers.proofs.sending.ruler_is_shareable.Goals as goal

pub is_shareable-requires-send-T : goal.is_shareable-requires-send-T
is_shareable-requires-send-T g c κs within =
    let D = rows.D-row g.row.D g.row.S g.row.L g.row.P in
    let S = rows.S-row g.row.D g.row.S g.row.L g.row.P in
    let L = rows.L-row g.row.D g.row.S g.row.L g.row.P in
    let P = rows.P-row g.row.D g.row.S g.row.L g.row.P in
    let ruler : IsSend (Ruler.the_row D S L P g.D.Store g.S.Sink g.L.Crew g.L.Ledger g.P.Crew g.P.Ledger) = Ruler-send D S L P g.D.Store g.S.Sink g.L.Crew g.L.Ledger g.P.Crew g.P.Ledger c.type_bounds.send-D c.type_bounds.send-S c.type_bounds.send-L in
    record { owned = (param_send 0 _ ruler).owned; leaving = (param_send 0 _ ruler).leaving }

pub is_shareable-requires-sync-T : goal.is_shareable-requires-sync-T
is_shareable-requires-sync-T g c κs within =
    let D = rows.D-row g.row.D g.row.S g.row.L g.row.P in
    let S = rows.S-row g.row.D g.row.S g.row.L g.row.P in
    let L = rows.L-row g.row.D g.row.S g.row.L g.row.P in
    let P = rows.P-row g.row.D g.row.S g.row.L g.row.P in
    let ruler : IsSync (Ruler.the_row D S L P g.D.Store g.S.Sink g.L.Crew g.L.Ledger g.P.Crew g.P.Ledger) = Ruler-sync D S L P g.D.Store g.S.Sink g.L.Crew g.L.Ledger g.P.Crew g.P.Ledger c.type_bounds.send-D c.type_bounds.send-S c.type_bounds.send-L in
    record { shared = (param_sync 0 _ ruler).shared }
