-- One slot has a change less.
use Rattle.std.proofs.Common.{map, length, refl, sym, ap, subst, ◌∙◌, arith}
use Rattle.std.proofs.lemmas.Option.{slice_get_read}
use Rattle.rl_slots.specs.Slots.{outline, with_change, AllStand, SlotView}
use Rattle.rl_slots.proofs.Setting.{set_seen, slot_taken}
use Rattle.rl_slots.proofs.Tables.{same_ranges, table_kept}
use Rattle.rl_slots.proofs.slots.Slots.take_one.Goals as goal

pub invariant_of-self : goal.invariant_of-self
invariant_of-self c =
    let slots = c.self.inside.slots.items in
    let x = c.index_mut.result.now in
    let y = c.take_out.new.self in
    let there = slice_get_read slots (length slots) c.args.change.now.slot x refl (omega (arith, c.if-change-len.false, c.len.ensures)) c.index_mut.ensures.value in
    table_kept slots c.args.change.now.slot x y c.self.inside.table.entries there (ap (λ (slot : SlotView). slot.terms) c.take_out.ensures.outline) (same_ranges x y c.take_out.ensures.outline) c.self.invariant

pub returns-clause-stand : goal.returns-clause-stand
returns-clause-stand c =
    let slots = c.self.inside.slots.items in
    let x = c.index_mut.result.now in
    let there = slice_get_read slots (length slots) c.args.change.now.slot x refl (omega (arith, c.if-change-len.false, c.len.ensures)) c.index_mut.ensures.value in
    λ contents before. slot_taken slots c.args.change.now contents x c.take_out.new.self there (c.take_out.ensures.stands (contents c.args.change.now.slot)) (subst (λ ss. AllStand ss (with_change c.args.change.now contents)) (sym c.self.view_is) before)

pub returns-clause-outline : goal.returns-clause-outline
returns-clause-outline c =
    let slots = c.self.inside.slots.items in
    let x = c.index_mut.result.now in
    let there = slice_get_read slots (length slots) c.args.change.now.slot x refl (omega (arith, c.if-change-len.false, c.len.ensures)) c.index_mut.ensures.value in
    set_seen outline slots c.args.change.now.slot x c.take_out.new.self there c.take_out.ensures.outline ∙ ap (map outline) c.self.view_is
