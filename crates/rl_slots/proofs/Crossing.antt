-- Slots may be sent to another thread.
use denote.Struct.Declared.{shape}
use denote.Param.Send.{IsSend, sendable, view_send, recorded_send, struct_send}
use Rattle.std.proofs.Crossing as heap
use Rattle.std.specs.contracts.alloc.Global as Global
use Rattle.std.specs.contracts.impls.GlobalAllocator.TheImpl as allocator
use Rattle.std.specs.contracts.vec.Vec as Vec
use Rattle.std.specs.contracts.hash.BuildHasherDefault as BuildHasherDefault
use Rattle.std.specs.contracts.hash.FoldHasher as FoldHasher
use Rattle.indexmap.proofs.map.IndexMap.TheSendSync as index_map
use Rattle.rl_labels.proofs.labels.Labels.TheSendSync as label_sets
use Rattle.rl_plain.proofs.list.PlainList.TheSendSync as list
use Rattle.rl_plain.specs.contracts.list.PlainList as PlainList
use Rattle.rl_labels.proofs.Crossing as labels
use Rattle.rl_pipeline.proofs.Crossing as pipeline
use Rattle.rl_query.proofs.Crossing as queries
use Rattle.rl_windows.proofs.window.Window.TheSendSync as window
use Rattle.rl_windows.specs.contracts.range.RangeCode as RangeCode
use Rattle.rl_slots.specs.contracts.range_window.RangeWindow as RangeWindow
use Rattle.rl_slots.specs.contracts.window_index.WindowIndex as WindowIndex
use Rattle.rl_slots.specs.contracts.slot.Slot as Slot
use Rattle.rl_slots.specs.contracts.slot.Slot.TheInside as slot
use Rattle.rl_slots.specs.contracts.slots.Slots as Slots
use Rattle.rl_slots.specs.contracts.slots.Slots.TheInside as inside

RangeCode_field-send : IsSend (RangeCode.the_field).row
RangeCode_field-send = search (labels.crosses, pipeline.crosses, sendable, heap.crosses) depth 20

RangeWindow-send : IsSend RangeWindow.the_row
RangeWindow-send = let code = RangeCode_field-send in search (window.the_send, sendable, heap.crosses) depth 20

fields-send : IsSend slot.the_row
fields-send =
    let one = RangeWindow-send in
    search (queries.crosses, sendable, heap.crosses) depth 20

Slot-send : IsSend Slot.the_row
Slot-send = view_send _ _ _ _ _ fields-send

WindowIndex-send : IsSend WindowIndex.the_row
WindowIndex-send = search sendable depth 20

indices-send : IsSend (PlainList.the_row WindowIndex.the_row)
indices-send = let one = WindowIndex-send in search (list.the_send, sendable, heap.crosses) depth 20

all_fields-send : IsSend inside.the_row
all_fields-send =
    let one = Slot-send in
    let slots : IsSend (Vec.the_field Slot.the_row Global.the_row allocator.ghosts).row = search (one, sendable, heap.crosses) depth 20 in
    let builder : IsSend (BuildHasherDefault.the_row FoldHasher.the_row) = search sendable depth 20 in
    let table = index_map.the_send _ _ _ _ FoldHasher.the_row _ _ _ _ _ label_sets.the_send indices-send builder heap.send heap.frees in
    recorded_send (inside.the_field).row _ _ (inside.the_type).to_one (struct_send (shape inside.the_type) (slots, (table, tt)))

pub Slots-send : IsSend Slots.the_row
Slots-send = view_send _ _ _ _ _ all_fields-send

-- with this `search` shows that a type which holds slots may be sent
pub ruleset crosses = (Slots-send)
