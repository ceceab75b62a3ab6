-- A caller may be sent to another thread, where its ruler may be shared and its pass sent.
use denote.RattleType.{RattleType}
use denote.Ref.{NamedLft}
use denote.Param.Send.{IsSend, IsSync, sendable}
use Rattle.std.proofs.Crossing as heap
use Rattle.std.specs.declared.sync.ledger.Ledger as Ledger
use Rattle.rl_chunks.specs.declared.store.Store as Store
use Rattle.rl_plain.specs.contracts.text.PlainText as PlainText
use Rattle.rl_sinks.specs.declared.sink.Sink as Sink
use Rattle.rl_workers.specs.declared.crew.Crew as Crew
use Rattle.rl_workers.proofs.Crossing.{Pass-send, Ruler-sync}
use Rattle.rl_callers.specs.contracts.caller.Caller as Caller
use Rattle.rl_callers.specs.contracts.caller.Listing as Listing

pub Caller-send : (κ : NamedLft) (T U B C W : RattleType) (g : Store.Ghosts T.Denot) (h : Sink.Ghosts U.Denot) (k : Crew.Ghosts B.Denot) (l : Ledger.Ghosts B.Denot) (m : Crew.Ghosts C.Denot) (n : Ledger.Ghosts C.Denot) → IsSend T → IsSend U → IsSend B → IsSync W → IsSend (Caller.the_row κ T U B C W g h k l m n)
Caller-send κ T U B C W g h k l m n store sink ledger runtime =
    let ruler = Ruler-sync T U B C g h k l m n store sink ledger in
    let pass = Pass-send C m n in
    search (sendable, heap.crosses) depth 20
