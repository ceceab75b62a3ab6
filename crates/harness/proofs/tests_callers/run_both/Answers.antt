-- A caller may be sent to another thread, by its parts.
use denote.RattleType.{RattleType}
use denote.Ref.{NamedLft}
use denote.Param.Send.{IsSend, IsSync, param_send, sendable}
use mir.Syntax.{erased}
use Rattle.std.proofs.Crossing as heap
use Rattle.std.specs.declared.sync.ledger.Ledger as Ledger
use Rattle.rl_chunks.specs.declared.store.Store as Store
use Rattle.rl_sinks.specs.declared.sink.Sink as Sink
use Rattle.rl_workers.specs.declared.crew.Crew as Crew
use Rattle.rl_workers.proofs.Crossing.{Pass-send, Ruler-sync}
use Rattle.harness.specs.contracts.tests_callers.Caller as Caller
use Rattle.harness.specs.contracts.tests_callers.run_both as rows
use Rattle.harness.proofs.tests_callers.run_both.Goals as goal

Caller-send : (κ : NamedLft) (T U B C W : RattleType) (g : Store.Ghosts T.Denot) (h : Sink.Ghosts U.Denot) (k : Crew.Ghosts B.Denot) (l : Ledger.Ghosts B.Denot) (m : Crew.Ghosts C.Denot) (n : Ledger.Ghosts C.Denot) → IsSend T → IsSend U → IsSend B → IsSync W → IsSend (Caller.the_row κ T U B C W g h k l m n)
Caller-send κ T U B C W g h k l m n store sink ledger runtime =
    let ruler = Ruler-sync T U B C g h k l m n store sink ledger in
    let pass = Pass-send C m n in
    search (sendable, heap.crosses) depth 20

pub for_each_mut-requires-send-T : goal.for_each_mut-requires-send-T
for_each_mut-requires-send-T g c κs within =
    let D = rows.D-row g.row.D g.row.S g.row.L g.row.P g.row.R in
    let S = rows.S-row g.row.D g.row.S g.row.L g.row.P g.row.R in
    let L = rows.L-row g.row.D g.row.S g.row.L g.row.P g.row.R in
    let P = rows.P-row g.row.D g.row.S g.row.L g.row.P g.row.R in
    let R = rows.R-row g.row.D g.row.S g.row.L g.row.P g.row.R in
    let caller = param_send 1 _ (Caller-send (record { mir = erased; lft = _ }) D S L P R g.D.Store g.S.Sink g.L.Crew g.L.Ledger g.P.Crew g.P.Ledger c.type_bounds.send-D c.type_bounds.send-S c.type_bounds.send-L c.type_bounds.sync-R) in
    record { owned = caller.owned; leaving = caller.leaving }
