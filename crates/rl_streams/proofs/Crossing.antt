-- Streams may be sent to another thread where their store may.
use denote.RattleType.{RattleType}
use denote.Struct.Declared.{shape}
use denote.Struct.Field
use denote.Param.Send.{IsSend, sendable, view_send, recorded_send, struct_send}
use Rattle.std.proofs.Crossing as heap
use Rattle.std.specs.contracts.hash.BuildHasherDefault as BuildHasherDefault
use Rattle.std.specs.contracts.hash.FoldHasher as FoldHasher
use Rattle.rl_labels.proofs.Crossing as codes
use Rattle.rl_labels.proofs.labels.Labels.TheSendSync as labels
use Rattle.rl_labels.proofs.limits.Limits.TheSendSync as limits
use Rattle.rl_labels.proofs.matcher.Matcher.TheSendSync as matcher
use Rattle.rl_plain.proofs.list.PlainList.TheSendSync as list
use Rattle.indexmap.proofs.map.IndexMap.TheSendSync as index_map
use Rattle.rl_parts.proofs.Crossing.{ChunkStore-send, Stream-send}
use Rattle.rl_chunks.specs.declared.store.Store as Store
use Rattle.rl_streams.specs.contracts.selections.Selection as Selection
use Rattle.rl_streams.specs.contracts.selections.Selections as Selections
use Rattle.rl_streams.specs.contracts.streams.Streams as Streams
use Rattle.rl_streams.specs.contracts.streams.Streams.TheInside as inside

Selection-send : IsSend Selection.the_row
Selection-send = search (codes.crosses, matcher.the_send, list.the_send, sendable, heap.crosses) depth 20

Selections_field-send : IsSend (Selections.the_field).row
Selections_field-send = let one = Selection-send in search (sendable, heap.crosses) depth 20

fields-send : (T : RattleType) (g : Store.Ghosts T.Denot) → IsSend T → IsSend (inside.the_row T g)
fields-send T g s =
    let number : IsSend (Field.u64-field).row = search sendable depth 20 in
    let builder : IsSend (BuildHasherDefault.the_row FoldHasher.the_row) = search sendable depth 20 in
    let map = index_map.the_send _ _ _ _ FoldHasher.the_row _ _ _ _ _ labels.the_send Stream-send builder heap.send heap.frees in
    recorded_send (inside.the_field T g).row _ _ (inside.the_type T g).to_one (struct_send (shape (inside.the_type T g))
    (ChunkStore-send T g s, (limits.the_field_send, (map, (number, (Selections_field-send, tt))))))

pub Streams-send : (T : RattleType) (g : Store.Ghosts T.Denot) → IsSend T → IsSend (Streams.the_row T g)
Streams-send T g s = view_send _ _ _ _ _ (fields-send T g s)
