-- Books may be sent to another thread where their sinks may.
use denote.RattleType.{RattleType}
use denote.Struct.Declared.{shape}
use denote.Struct.Field
use denote.Param.Send.{IsSend, sendable, view_send, recorded_send, struct_send}
use Rattle.std.proofs.Crossing as heap
use Rattle.std.proofs.alloc.Global.TheSendSync as global
use Rattle.std.specs.contracts.alloc.Global as Global
use Rattle.std.specs.contracts.impls.GlobalAllocator.TheImpl as allocator
use Rattle.std.specs.contracts.option.Option as Option
use Rattle.std.specs.contracts.vec.Vec as Vec
use Rattle.rl_plain.specs.contracts.list.PlainList as PlainList
use Rattle.rl_plain.specs.contracts.shared.Shared as Shared
use Rattle.rl_aggregate.specs.contracts.partial.Partial as Partial
use Rattle.rl_rules.specs.contracts.evaluation.Evaluation as Evaluation
use Rattle.rl_rules.specs.contracts.kept.KeptRule as KeptRule
use Rattle.rl_rules.specs.contracts.rule.Group as Group
use Rattle.rl_sinks.specs.declared.sink.Sink as Sink
use Rattle.rl_aggregate.proofs.partial.Partial.TheSendSync as partial
use Rattle.rl_world.proofs.opened.OpenEvaluation.TheSendSync as opening
use Rattle.rl_records.proofs.Crossing.{Terms-send}
use Rattle.rl_records.specs.contracts.terms.Terms as Terms
use Rattle.rl_rules.proofs.Crossing as groups
use Rattle.rl_world.specs.contracts.item.Item as Item
use Rattle.rl_world.specs.contracts.opened.OpenEvaluation as OpenEvaluation
use Rattle.rl_world.specs.contracts.book.Book as Book
use Rattle.rl_world.specs.contracts.book.Book.TheInside as inside

Item-send : IsSend Item.the_row
Item-send = search (groups.crosses, sendable, heap.crosses) depth 20

fields-send : (T : RattleType) (g : Sink.Ghosts T.Denot) → IsSend T → IsSend (inside.the_row T g)
fields-send T g s =
    let group : IsSend (Shared.the_field Group.the_row).row = search (groups.crosses, sendable, heap.crosses) depth 20 in
    let terms : IsSend (Terms.the_field).row = let one = Terms-send in search (one, sendable, heap.crosses) depth 20 in
    let kept : IsSend (Vec.the_field KeptRule.the_row Global.the_row allocator.ghosts).row = search (groups.crosses, sendable, heap.crosses) depth 20 in
    let item = Item-send in
    let items : IsSend (Vec.the_field Item.the_row Global.the_row allocator.ghosts).row = search (item, sendable, heap.crosses) depth 20 in
    let evaluations : IsSend (Vec.the_field (Shared.the_row Evaluation.the_row) Global.the_row allocator.ghosts).row = search (groups.crosses, sendable, heap.crosses) depth 20 in
    let opened : IsSend (Option.the_field (OpenEvaluation.the_row (PlainList.the_row (Shared.the_row Partial.the_row)))).row = search (opening.the_field_send, partial.the_send, partial.the_sync, groups.crosses, sendable, heap.crosses) depth 20 in
    let sinks : IsSend (Vec.the_field T Global.the_row allocator.ghosts).row = search (s, sendable, heap.crosses) depth 20 in
    let number : IsSend (Field.u64-field).row = search sendable depth 20 in
    let size : IsSend (Field.usize-field).row = search sendable depth 20 in
    recorded_send (inside.the_field T g).row _ _ (inside.the_type T g).to_one (struct_send (shape (inside.the_type T g))
    (global.the_field_send, (group, (group, (terms, (number, (size, (number, (kept, (items, (evaluations, (opened, (sinks, tt)))))))))))))

pub Book-send : (T : RattleType) (g : Sink.Ghosts T.Denot) → IsSend T → IsSend (Book.the_row T g)
Book-send T g s = view_send _ _ _ _ _ (fields-send T g s)
