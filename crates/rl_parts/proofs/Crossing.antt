-- Parts and streams may be sent to another thread, and chunks where their store may.
use denote.RattleType.{RattleType}
use denote.Struct.Declared.{shape}
use denote.Struct.Field
use denote.Param.Send.{IsSend, sendable, view_send, recorded_send, struct_send}
use Rattle.std.proofs.Crossing as heap
use Rattle.std.proofs.alloc.Global.TheSendSync as global
use Rattle.rl_plain.proofs.list.PlainList.TheSendSync as list
use Rattle.rl_plain.proofs.shared.Shared.TheSendSync as shared
use Rattle.rl_labels.proofs.entry.Entry.TheSendSync as entry
use Rattle.rl_labels.proofs.labels.Labels.TheSendSync as labels
use Rattle.rl_chunks.specs.declared.store.Store as Store
use Rattle.rl_parts.specs.contracts.chunk_store.ChunkStore as ChunkStore
use Rattle.rl_parts.specs.contracts.chunk_store.ChunkStore.TheInside as chunks
use Rattle.rl_parts.specs.contracts.stored.StoredEntry as StoredEntry
use Rattle.rl_parts.specs.contracts.part.Written as Written
use Rattle.rl_parts.specs.contracts.part.Location as Location
use Rattle.rl_parts.specs.contracts.part.Part as Part
use Rattle.rl_parts.specs.contracts.part.Part.TheInside as part
use Rattle.rl_parts.specs.contracts.stream.Stream as Stream
use Rattle.rl_parts.specs.contracts.stream.Stream.TheInside as stream

StoredEntry-send : IsSend StoredEntry.the_row
StoredEntry-send = search (entry.the_send, entry.the_sync, shared.the_send, sendable, heap.crosses) depth 20

Written-send : IsSend (Written.the_field).row
Written-send = let stored = StoredEntry-send in search (list.the_send, sendable, heap.crosses) depth 20

Location-send : IsSend (Location.the_field).row
Location-send = let stored = StoredEntry-send in let written = Written-send in search (list.the_send, sendable, heap.crosses) depth 20

part-inside : IsSend part.the_row
part-inside = let location = Location-send in search (sendable, heap.crosses) depth 20

pub Part-send : IsSend Part.the_row
Part-send = view_send _ _ _ _ _ part-inside

stream-inside : IsSend stream.the_row
stream-inside = let stored = StoredEntry-send in let part = Part-send in search (labels.the_send, sendable, heap.crosses) depth 20

pub Stream-send : IsSend Stream.the_row
Stream-send = view_send _ _ _ _ _ stream-inside

chunks-inside : (T : RattleType) (g : Store.Ghosts T.Denot) → IsSend T → IsSend (chunks.the_row T g)
chunks-inside T g s =
    let number : IsSend (Field.u64-field).row = search sendable depth 20 in
    recorded_send (chunks.the_field T g).row _ _ (chunks.the_type T g).to_one (struct_send (shape (chunks.the_type T g)) (global.the_field_send, (s, (number, tt))))

pub ChunkStore-send : (T : RattleType) (g : Store.Ghosts T.Denot) → IsSend T → IsSend (ChunkStore.the_row T g)
ChunkStore-send T g s = view_send _ _ _ _ _ (chunks-inside T g s)

-- with these `search` shows that a type which holds parts or streams may be sent
pub ruleset crosses = (Part-send, Stream-send)
