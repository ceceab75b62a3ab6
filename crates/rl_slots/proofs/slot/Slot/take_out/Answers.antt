-- One window has an element less.
use Rattle.std.proofs.Common.{◌≡◌, length, refl, sym, ap, subst, ◌∙◌, arith}
use Rattle.std.proofs.lemmas.Option.{slice_get_read}
use Rattle.rl_slots.specs.Slots.{outline, range_of, with_element_at, SlotView, StandIn}
use Rattle.rl_slots.specs.declared.range_window.RangeWindow.{RangeWindow}
use Rattle.rl_slots.proofs.Setting.{taken_at, set_seen, slot_kept}
use Rattle.rl_slots.proofs.slot.Slot.take_out.Goals as goal

pub invariant_of-self : goal.invariant_of-self
invariant_of-self c =
    let windows = c.self.inside.windows.items in
    let x = c.index_mut.result.now in
    let there = slice_get_read windows (length windows) c.args.window x refl (omega (arith, c.if-window-len.false, c.len.ensures)) c.index_mut.ensures.value in
    slot_kept c.self.inside.terms c.self.inside.collected c.self.inside.reached windows c.self.inside.indices.items c.args.window x c.take_out.new.self there c.take_out.ensures.range c.self.invariant

pub returns-clause-stands : goal.returns-clause-stands
returns-clause-stands c =
    let windows = c.self.inside.windows.items in
    let x = c.index_mut.result.now in
    let there = slice_get_read windows (length windows) c.args.window x refl (omega (arith, c.if-window-len.false, c.len.ensures)) c.index_mut.ensures.value in
    let same : windows ≡ c.args.self.now.windows = ap (λ (v : SlotView). v.windows) c.self.view_is in
    λ contents before. taken_at windows c.args.window c.args.element.now contents x c.take_out.new.self there (ap (λ (it : RangeWindow). it.code) c.take_out.ensures.range) c.take_out.ensures.stands (subst (λ ws. StandIn ws (with_element_at c.args.window c.args.element.now contents)) (sym same) before)

pub returns-clause-outline : goal.returns-clause-outline
returns-clause-outline c =
    let windows = c.self.inside.windows.items in
    let x = c.index_mut.result.now in
    let there = slice_get_read windows (length windows) c.args.window x refl (omega (arith, c.if-window-len.false, c.len.ensures)) c.index_mut.ensures.value in
    let own = c.self.inside in
    (λ i. record { number = own.number; terms = own.terms; collected = own.collected; reached = own.reached; windows = set_seen range_of windows c.args.window x c.take_out.new.self there c.take_out.ensures.range i })
    ∙ ap outline c.self.view_is
