-- One slot has a change more.
use Rattle.std.proofs.Common.{map, length, refl, sym, ap, subst, ◌∙◌, arith}
use Rattle.std.proofs.lemmas.Result.{on_ok_weaker}
use Rattle.std.proofs.lemmas.Option.{slice_get_read}
use Rattle.rl_slots.specs.Slots.{outline, AllStand, SlotView}
use Rattle.rl_slots.proofs.Setting.{set_seen, slot_added}
use Rattle.rl_slots.proofs.Tables.{same_ranges, table_kept}
use Rattle.rl_slots.proofs.slots.Slots.add_one.Goals as goal

pub invariant_of-self : goal.invariant_of-self
invariant_of-self c =
    let slots = c.self.inside.slots.items in
    let x = c.index_mut.result.now in
    let y = c.add.new.self in
    let there = slice_get_read slots (length slots) c.args.change.now.slot x refl (omega (arith, c.if-change-len.false, c.len.ensures)) c.index_mut.ensures.value in
    table_kept slots c.args.change.now.slot x y c.self.inside.table.entries there (ap (λ (slot : SlotView). slot.terms) c.add.ensures.outline) (same_ranges x y c.add.ensures.outline) c.self.invariant

pub returns-clause-stand : goal.returns-clause-stand
returns-clause-stand c =
    let slots = c.self.inside.slots.items in
    let x = c.index_mut.result.now in
    let there = slice_get_read slots (length slots) c.args.change.now.slot x refl (omega (arith, c.if-change-len.false, c.len.ensures)) c.index_mut.ensures.value in
    on_ok_weaker c.add.result (λ more contents before. slot_added slots c.args.change.now contents x c.add.new.self there (more (contents c.args.change.now.slot)) (subst (λ ss. AllStand ss contents) (sym c.self.view_is) before)) c.add.ensures.stands

pub returns-clause-outline : goal.returns-clause-outline
returns-clause-outline c =
    let slots = c.self.inside.slots.items in
    let x = c.index_mut.result.now in
    let there = slice_get_read slots (length slots) c.args.change.now.slot x refl (omega (arith, c.if-change-len.false, c.len.ensures)) c.index_mut.ensures.value in
    set_seen outline slots c.args.change.now.slot x c.add.new.self there c.add.ensures.outline ∙ ap (map outline) c.self.view_is
