-- One window has an element more.
use Rattle.std.proofs.Common.{◌≡◌, length, refl, sym, ap, subst, ◌∙◌, arith}
use Rattle.std.proofs.lemmas.Result.{on_ok_weaker}
use Rattle.std.proofs.lemmas.Option.{slice_get_read}
use Rattle.rl_slots.specs.Slots.{outline, range_of, SlotView, StandIn}
use Rattle.rl_slots.specs.declared.range_window.RangeWindow.{RangeWindow}
use Rattle.rl_slots.proofs.Setting.{added_at, set_seen, slot_kept}
use Rattle.rl_slots.proofs.slot.Slot.add.Goals as goal

pub invariant_of-self : goal.invariant_of-self
invariant_of-self c =
    let windows = c.self.inside.windows.items in
    let x = c.index_mut.result.now in
    let there = slice_get_read windows (length windows) c.args.window x refl (omega (arith, c.if-window-len.false, c.len.ensures)) c.index_mut.ensures.value in
    slot_kept c.self.inside.terms c.self.inside.collected c.self.inside.reached windows c.self.inside.indices.items c.args.window x c.add.new.self there c.add.ensures.range c.self.invariant

pub returns-clause-stands : goal.returns-clause-stands
returns-clause-stands c =
    let windows = c.self.inside.windows.items in
    let x = c.index_mut.result.now in
    let there = slice_get_read windows (length windows) c.args.window x refl (omega (arith, c.if-window-len.false, c.len.ensures)) c.index_mut.ensures.value in
    let same : windows ≡ c.args.self.now.windows = ap (λ (v : SlotView). v.windows) c.self.view_is in
    on_ok_weaker c.add.result (λ more contents before. added_at windows c.args.window c.args.element.now contents x c.add.new.self there (ap (λ (it : RangeWindow). it.code) c.add.ensures.range) more (subst (λ ws. StandIn ws contents) (sym same) before)) c.add.ensures.stands

pub returns-clause-outline : goal.returns-clause-outline
returns-clause-outline c =
    let windows = c.self.inside.windows.items in
    let x = c.index_mut.result.now in
    let there = slice_get_read windows (length windows) c.args.window x refl (omega (arith, c.if-window-len.false, c.len.ensures)) c.index_mut.ensures.value in
    let own = c.self.inside in
    (λ i. record { number = own.number; terms = own.terms; collected = own.collected; reached = own.reached; windows = set_seen range_of windows c.args.window x c.add.new.self there c.add.ensures.range i })
    ∙ ap outline c.self.view_is
