-- Shards may be sent to another thread where their stores may.
use denote.RattleType.{RattleType}
use denote.Struct.Declared.{shape}
use denote.Param.Send.{IsSend, sendable, view_send, recorded_send, struct_send}
use Rattle.std.proofs.Crossing as heap
use Rattle.std.proofs.alloc.Global.TheSendSync as global
use Rattle.std.specs.contracts.alloc.Global as Global
use Rattle.std.specs.contracts.impls.GlobalAllocator.TheImpl as allocator
use Rattle.std.specs.contracts.vec.Vec as Vec
use Rattle.rl_plain.proofs.list.PlainList.TheSendSync as list
use Rattle.rl_plain.proofs.shared.Shared.TheSendSync as shared
use Rattle.rl_labels.proofs.entry.Entry.TheSendSync as entry
use Rattle.rl_aggregate.proofs.partial.Partial.TheSendSync as partial
use Rattle.rl_pipeline.specs.contracts.meter.Meter as Meter
use Rattle.rl_deletes.proofs.Crossing.{Requests-send}
use Rattle.rl_deletes.specs.contracts.horizon.Horizon as Horizon
use Rattle.rl_chunks.specs.declared.store.Store as Store
use Rattle.rl_records.proofs.Crossing.{SieveText-send, Terms-send}
use Rattle.rl_records.specs.contracts.record.Record as Record
use Rattle.rl_records.specs.contracts.step.ShardReply as ShardReply
use Rattle.rl_records.specs.contracts.step.ShardStep as ShardStep
use Rattle.rl_slots.proofs.Crossing.{Slots-send}
use Rattle.rl_streams.proofs.Crossing.{Streams-send}
use Rattle.rl_shard.specs.contracts.digested.Digested as Digested
use Rattle.rl_shard.specs.contracts.digested.Digested.TheInside as digested
use Rattle.rl_shard.specs.contracts.parts.ShardParts as Parts
use Rattle.rl_shard.specs.contracts.parts.ShardParts.TheInside as parts
use Rattle.rl_shard.specs.contracts.shard.Shard as Shard
use Rattle.rl_shard.specs.contracts.shard.Shard.TheInside as inside

parts-send : (T : RattleType) (g : Store.Ghosts T.Denot) → IsSend T → IsSend (Parts.the_row T g)
parts-send T g s =
    let moment : IsSend (Horizon.the_field).row = search (sendable, heap.crosses) depth 20 in
    let meter : IsSend (Meter.the_field).row = search (sendable, heap.crosses) depth 20 in
    view_send _ _ _ _ _ (recorded_send (parts.the_field T g).row _ _ (parts.the_type T g).to_one (struct_send (shape (parts.the_type T g))
    (global.the_field_send, (Streams-send T g s, (Requests-send, (moment, (Slots-send, (meter, tt))))))))

-- a record as a field of a struct
record-send : IsSend (Record.the_field).row
record-send =
    let terms = Terms-send in
    let sieve = SieveText-send in
    let step : IsSend (ShardStep.the_field).row = search (entry.the_send, entry.the_sync, shared.the_send, sendable, heap.crosses) depth 20 in
    let reply : IsSend (ShardReply.the_field).row = search (partial.the_send, partial.the_sync, list.the_send, shared.the_send, sendable, heap.crosses) depth 20 in
    search (sendable, heap.crosses) depth 20

Digested-send : IsSend Digested.the_row
Digested-send = view_send _ _ _ _ _ (recorded_send (digested.the_field).row _ _ (digested.the_type).to_one (struct_send (shape digested.the_type) (record-send, (search (sendable, heap.crosses) depth 20, tt))))

pub Shard-send : (T : RattleType) (g : Store.Ghosts T.Denot) → IsSend T → IsSend (Shard.the_row T g)
Shard-send T g s =
    let one = Digested-send in
    let journal : IsSend (Vec.the_field Digested.the_row Global.the_row allocator.ghosts).row = search (one, sendable, heap.crosses) depth 20 in
    view_send _ _ _ _ _ (recorded_send (inside.the_field T g).row _ _ (inside.the_type T g).to_one (struct_send (shape (inside.the_type T g)) (parts-send T g s, (journal, tt))))
