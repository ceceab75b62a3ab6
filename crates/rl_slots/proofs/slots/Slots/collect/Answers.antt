-- One slot moved on.
use Rattle.std.proofs.Common.{◌≡◌, ◌==◌, List, length, map, slice_set, Some, refl, sym, ap, subst, ◌∙◌, arith}
use Rattle.std.specs.Prelude.{slice_get}
use Rattle.std.specs.List.{position, sum_by, AllByRecursion}
use Rattle.std.specs.Option.{IfSome}
use Rattle.std.proofs.lemmas.Option.{slice_get_read}
use Rattle.std.proofs.lemmas.Result.{on_err_weaker, on_ok_weaker, IfOk-weaker}
use Rattle.rl_labels.specs.declared.entry.Entry.{Entry}
use Rattle.rl_query.specs.declared.query.Term.{Term}
use Rattle.rl_aggregate.specs.Partials.{partial}
use Rattle.rl_slots.specs.Slots.{collected_in, visits_for, AllStand, AreExact, AreExactIn, AreOfMost, HasVisits, SlotView}
use Rattle.rl_slots.specs.laws.Alike.{at_index}
use Rattle.rl_slots.specs.laws.Living.{answered, collected-others, collected-own, collected-same, first_number}
use Rattle.rl_slots.proofs.Setting.{set_keeps, set_seen, slot_moved}
use Rattle.rl_slots.proofs.Tables.{table_kept}
use Rattle.rl_slots.proofs.slots.Slots.collect.Goals as goal

pub invariant_of-self : goal.invariant_of-self
invariant_of-self c =
    let slots = c.self.inside.slots.items in
    let x = c.index_mut.result.now in
    let there = slice_get_read slots (length slots) c.args.index x refl (omega (arith, c.requires.there, ap length c.self.view_is)) c.index_mut.ensures.value in
    table_kept slots c.args.index x c.collect.new.self c.self.inside.table.entries there c.collect.ensures.asked.1 c.collect.ensures.ranges c.self.invariant

pub returns-clause-partials : goal.returns-clause-partials
returns-clause-partials c =
    let slots = c.self.inside.slots.items in
    let x = c.index_mut.result.now in
    let there = slice_get_read slots (length slots) c.args.index x refl (omega (arith, c.requires.there, ap length c.self.view_is)) c.index_mut.ensures.value in
    let now = c.args.self.now in
    let there_now : slice_get now c.args.index ≡ Some x = ap (λ ss. slice_get ss c.args.index) (sym c.self.view_is) ∙ there in
    IfOk-weaker c.collect.result _ _ (λ answer given. subst (λ o. IfSome o (λ slot. (entries : List Entry) → AreExact now entries → answer.partials ≡ map (λ (term : Term). partial entries term c.args.t) slot.terms)) (sym there_now)
    (λ entries exact. given entries (subst (λ o. IfSome o (λ slot. AreExactIn slot.windows entries)) there_now (exact c.args.index)))) c.collect.ensures.partials

pub returns-clause-stand : goal.returns-clause-stand
returns-clause-stand c = λ contents before.
    let slots = c.self.inside.slots.items in
    let x = c.index_mut.result.now in
    let there = slice_get_read slots (length slots) c.args.index x refl (omega (arith, c.requires.there, ap length c.self.view_is)) c.index_mut.ensures.value in
    slot_moved slots c.args.index contents x c.collect.new.self there (c.collect.ensures.stand (contents c.args.index)) (subst (λ ss. AllStand ss contents) (sym c.self.view_is) before)

pub returns-clause-moved : goal.returns-clause-moved
returns-clause-moved c =
    let slots = c.self.inside.slots.items in
    let x = c.index_mut.result.now in
    let there = slice_get_read slots (length slots) c.args.index x refl (omega (arith, c.requires.there, ap length c.self.view_is)) c.index_mut.ensures.value in
    let there_now : slice_get c.args.self.now c.args.index ≡ Some x = ap (λ ss. slice_get ss c.args.index) (sym c.self.view_is) ∙ there in
    let new = c.collect.new.self in
    (new, ap (λ ss. slice_set ss c.args.index new) c.self.view_is, subst (λ o. IfSome o (λ own. (new.number ≡ own.number) × (new.terms ≡ own.terms) × (new.reached ≡ c.args.t))) (sym there_now) c.collect.ensures.asked)

pub returns-clause-within : goal.returns-clause-within
returns-clause-within c =
    let slots = c.self.inside.slots.items in
    let x = c.index_mut.result.now in
    let there = slice_get_read slots (length slots) c.args.index x refl (omega (arith, c.requires.there, ap length c.self.view_is)) c.index_mut.ensures.value in
    IfOk-weaker c.collect.result _ _ (λ answer given most all. given most (at_index (λ (slot : SlotView). AllByRecursion (λ it. it.window.most ≡ most) slot.windows) slots c.args.index x there (subst (AreOfMost most) (sym c.self.view_is) all))) c.collect.ensures.within

pub returns-clause-most : goal.returns-clause-most
returns-clause-most c = λ most all.
    let slots = c.self.inside.slots.items in
    let x = c.index_mut.result.now in
    let there = slice_get_read slots (length slots) c.args.index x refl (omega (arith, c.requires.there, ap length c.self.view_is)) c.index_mut.ensures.value in
    set_keeps (λ (slot : SlotView). AllByRecursion (λ it. it.window.most ≡ most) slot.windows) slots c.args.index x c.collect.new.self there (c.collect.ensures.most most) (subst (AreOfMost most) (sym c.self.view_is) all)

pub returns-clause-each : goal.returns-clause-each
returns-clause-each c =
    let slots = c.self.inside.slots.items in
    let x = c.index_mut.result.now in
    let there = slice_get_read slots (length slots) c.args.index x refl (omega (arith, c.requires.there, ap length c.self.view_is)) c.index_mut.ensures.value in
    let there_now : slice_get c.args.self.now c.args.index ≡ Some x = ap (λ ss. slice_get ss c.args.index) (sym c.self.view_is) ∙ there in
    IfOk-weaker c.collect.result _ _ (λ answer given. subst (λ o. IfSome o (λ slot. length answer.partials ≡ length slot.terms)) (sym there_now) given) c.collect.ensures.each

pub returns-clause-visits : goal.returns-clause-visits
returns-clause-visits c = λ entries exact.
    let slots = c.self.inside.slots.items in
    let x = c.index_mut.result.now in
    let there = slice_get_read slots (length slots) c.args.index x refl (omega (arith, c.requires.there, ap length c.self.view_is)) c.index_mut.ensures.value in
    let there_now : slice_get c.args.self.now c.args.index ≡ Some x = ap (λ ss. slice_get ss c.args.index) (sym c.self.view_is) ∙ there in
    subst (λ o. IfSome o (λ slot. HasVisits (sum_by (visits_for entries slot.collected c.args.t) slot.terms) c.args.meter.now c.collect.new.meter)) (sym there_now)
    (c.collect.ensures.visits entries (subst (λ o. IfSome o (λ slot. AreExactIn slot.windows entries)) there_now (exact c.args.index)))

pub returns-clause-collected : goal.returns-clause-collected
returns-clause-collected c =
    let slots = c.self.inside.slots.items in
    let x = c.index_mut.result.now in
    let there = slice_get_read slots (length slots) c.args.index x refl (omega (arith, c.requires.there, ap length c.self.view_is)) c.index_mut.ensures.value in
    on_ok_weaker c.collect.result (λ collected number at.
    let at_own = ap (position (λ (slot : SlotView). slot.number == number)) c.self.view_is ∙ at in
    collected-own number c.args.index slots c.collect.new.self (c.collect.ensures.asked.0 ∙ first_number number c.args.index slots x at_own there) at_own ∙ ap Some collected) c.collect.ensures.collected

pub returns-clause-others : goal.returns-clause-others
returns-clause-others c = λ number apart.
    let slots = c.self.inside.slots.items in
    let x = c.index_mut.result.now in
    let there = slice_get_read slots (length slots) c.args.index x refl (omega (arith, c.requires.there, ap length c.self.view_is)) c.index_mut.ensures.value in
    collected-others number c.args.index slots x c.collect.new.self there c.collect.ensures.asked.0 (λ at. apart (ap (position (λ (slot : SlotView). slot.number == number)) (sym c.self.view_is) ∙ at))
    ∙ ap (collected_in number) c.self.view_is

pub returns-clause-kept : goal.returns-clause-kept
returns-clause-kept c =
    let slots = c.self.inside.slots.items in
    let x = c.index_mut.result.now in
    let there = slice_get_read slots (length slots) c.args.index x refl (omega (arith, c.requires.there, ap length c.self.view_is)) c.index_mut.ensures.value in
    on_err_weaker c.collect.result (λ kept number.
    collected-same slots (slice_set slots c.args.index c.collect.new.self) (set_seen answered slots c.args.index x c.collect.new.self there (λ i. (c.collect.ensures.asked.0 i, kept i))) number
    ∙ ap (collected_in number) c.self.view_is) c.collect.ensures.kept
