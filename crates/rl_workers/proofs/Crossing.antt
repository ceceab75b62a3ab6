-- A ruler may be shared by threads where its stores and its sinks may be sent to another one, and so may a pass.
use denote.RattleType.{RattleType}
use denote.Param.Send.{IsSend, IsSync, sendable}
use Rattle.std.proofs.Crossing as heap
use Rattle.std.proofs.sync.ledger.Book.TheSendSync as sums
use Rattle.std.proofs.sync.ledger.Share.TheSendSync as share
use Rattle.std.specs.declared.sync.ledger.Ledger as Ledger
use Rattle.rl_chunks.specs.declared.store.Store as Store
use Rattle.rl_sinks.specs.declared.sink.Sink as Sink
use Rattle.rl_audit.proofs.Crossing.{Note-send}
use Rattle.rl_shard.proofs.Crossing.{Shard-send}
use Rattle.rl_world.proofs.Crossing.{Book-send}
use Rattle.rl_workers.specs.declared.crew.Crew as Crew
use Rattle.rl_workers.specs.contracts.desk.Desk as Desk
use Rattle.rl_workers.specs.contracts.pass.Pass as Pass
use Rattle.rl_workers.specs.contracts.ruler.Ruler as Ruler
use Rattle.rl_workers.specs.contracts.seat.Seat as Seat
use Rattle.rl_workers.specs.contracts.tally.Tally as Tally

pub Desk-send : (T B : RattleType) (g : Store.Ghosts T.Denot) (k : Crew.Ghosts B.Denot) (l : Ledger.Ghosts B.Denot) → IsSend T → IsSend (Desk.the_row T B g k l)
Desk-send T B g k l store =
    let shard = Shard-send T g store in
    let part = share.the_send B l in
    search (sendable, heap.crosses) depth 20

pub Seat-send : (T B : RattleType) (g : Sink.Ghosts T.Denot) (k : Crew.Ghosts B.Denot) (l : Ledger.Ghosts B.Denot) → IsSend T → IsSend B → IsSend (Seat.the_row T B g k l)
Seat-send T B g k l sink ledger =
    let book = Book-send T g sink in
    search (sendable, heap.crosses) depth 20

pub Pass-send : (B : RattleType) (k : Crew.Ghosts B.Denot) (l : Ledger.Ghosts B.Denot) → IsSend (Pass.the_row B k l)
Pass-send B k l =
    let note = Note-send in
    let part = share.the_send B l in
    search (sendable, heap.crosses) depth 20

Tally-send : (B C : RattleType) (k : Crew.Ghosts B.Denot) (m : Crew.Ghosts C.Denot) (l : Ledger.Ghosts B.Denot) (n : Ledger.Ghosts C.Denot) → IsSend (Tally.the_row B C k m l n)
Tally-send B C k m l n =
    let records = sums.the_send B l in
    let receipts = sums.the_send C n in
    let no_record = share.the_send B l in
    let no_receipt = share.the_send C n in
    search (sendable, heap.crosses) depth 20

pub Ruler-send : (T U B C : RattleType) (g : Store.Ghosts T.Denot) (h : Sink.Ghosts U.Denot) (k : Crew.Ghosts B.Denot) (l : Ledger.Ghosts B.Denot) (m : Crew.Ghosts C.Denot) (n : Ledger.Ghosts C.Denot) → IsSend T → IsSend U → IsSend B → IsSend (Ruler.the_row T U B C g h k l m n)
Ruler-send T U B C g h k l m n store sink ledger =
    let desk = Desk-send T B g k l store in
    let seat = Seat-send U B h k l sink ledger in
    let tally = Tally-send B C k m l n in
    search (sendable, heap.crosses) depth 20

pub Ruler-sync : (T U B C : RattleType) (g : Store.Ghosts T.Denot) (h : Sink.Ghosts U.Denot) (k : Crew.Ghosts B.Denot) (l : Ledger.Ghosts B.Denot) (m : Crew.Ghosts C.Denot) (n : Ledger.Ghosts C.Denot) → IsSend T → IsSend U → IsSend B → IsSync (Ruler.the_row T U B C g h k l m n)
Ruler-sync T U B C g h k l m n store sink ledger =
    let desk = Desk-send T B g k l store in
    let seat = Seat-send U B h k l sink ledger in
    let tally = Tally-send B C k m l n in
    search (sendable, heap.crosses) depth 20
