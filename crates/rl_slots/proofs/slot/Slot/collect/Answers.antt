-- The windows moved on and stand for what they stood for.
use Rattle.std.proofs.Common.{◌≡◌, ◌<◌, ◌≤◌, length, map, Some, sym, ap, subst, ◌∙◌, arith}
use Rattle.std.specs.Prelude.{slice_get}
use Rattle.std.specs.List.{AllByRecursion, AllZip, sum_by}
use Rattle.std.proofs.lemmas.List.{length-map, with_items_is}
use Rattle.std.proofs.lemmas.Slice.Zip.{AllZip-long}
use Rattle.rl_query.specs.declared.query.Term.{Term}
use Rattle.rl_aggregate.specs.Limited.{IsWithin}
use Rattle.rl_aggregate.specs.Partials.{partial}
use Rattle.rl_slots.specs.Slots.{key_of, term_key, visits_by, visits_for, AreExactIn, ArePicked, AreSums, HasVisits, IsPartialAt, IsSlot, IsSumAt, SlotView, StandIn, IsWindowOf}
use Rattle.rl_slots.proofs.Asking.{at_moment, not_past, partials_of, sums_of, within_of}
use Rattle.rl_slots.proofs.Visiting.{terms-visits}
use Rattle.rl_slots.proofs.slot.Slot.collect.Goals as goal

pub collect_each-requires-clause-there : goal.collect_each-requires-clause-there
collect_each-requires-clause-there c =
    let own = c.self.inside in
    subst (λ is. AllByRecursion (λ index. index < length c.deref_mut.result.now) is) (sym c.deref.ensures.value)
    (subst (λ ws. AllByRecursion (λ index. index < length ws) own.indices.items) (sym c.deref_mut.ensures.value) (within_of own.windows.items own.terms own.indices.items c.self.invariant.of_terms))

pub collect_each-requires-clause-moments : goal.collect_each-requires-clause-moments
collect_each-requires-clause-moments c =
    let own = c.self.inside in
    let less : own.reached ≤ c.args.t = omega (arith, ap (λ (v : SlotView). v.reached) c.self.view_is, c.requires) in
    subst (AllByRecursion (λ it. it.window.moment ≤ c.args.t)) (sym c.deref_mut.ensures.value) (not_past own.windows.items own.reached c.args.t less c.self.invariant.moments)

pub invariant_of-self : goal.invariant_of-self
invariant_of-self c =
    let own = c.self.inside in
    let same : own.windows.items ≡ c.args.self.now.windows = ap (λ (v : SlotView). v.windows) c.self.view_is in
    let more = c.collect_each.new.windows in
    let ranges : map key_of more ≡ map key_of own.windows.items = c.collect_each.ensures.ranges ∙ ap (map key_of) c.deref_mut.ensures.value in
    let is = with_items_is own.windows more (omega (arith, own.windows.ok.0, length-map more key_of, ap length ranges, length-map own.windows.items key_of)) in
    subst (λ ws. IsSlot own.terms own.collected c.args.t ws own.indices.items) (sym is) (record {
      of_terms = subst (λ keys. AllZip (λ term index. slice_get keys index ≡ Some (term_key term)) own.terms own.indices.items) (sym ranges) c.self.invariant.of_terms;
      picked = subst (λ keys. ArePicked keys (map term_key own.terms)) (sym ranges) c.self.invariant.picked;
      since = c.collect_each.ensures.since own.collected (subst (AllByRecursion (λ it. own.collected ≤ it.window.moment)) (sym c.deref_mut.ensures.value) c.self.invariant.since);
      moments = c.collect_each.ensures.moments;
    })

pub returns-in_err-partials-clause-stand : goal.returns-in_err-partials-clause-stand
returns-in_err-partials-clause-stand c =
    let own = c.self.inside in
    let same : own.windows.items ≡ c.args.self.now.windows = ap (λ (v : SlotView). v.windows) c.self.view_is in
    let more = c.collect_each.new.windows in
    let ranges : map key_of more ≡ map key_of own.windows.items = c.collect_each.ensures.ranges ∙ ap (map key_of) c.deref_mut.ensures.value in
    let is = with_items_is own.windows more (omega (arith, own.windows.ok.0, length-map more key_of, ap length ranges, length-map own.windows.items key_of)) in
    λ contents before. subst (λ ws. StandIn ws contents) (sym is) (c.collect_each.ensures.stand contents (subst (λ ws. StandIn ws contents) (sym (c.deref_mut.ensures.value ∙ same)) before))

pub returns-in_err-answer-clause-stand : goal.returns-in_err-answer-clause-stand
returns-in_err-answer-clause-stand c =
    let own = c.self.inside in
    let same : own.windows.items ≡ c.args.self.now.windows = ap (λ (v : SlotView). v.windows) c.self.view_is in
    let more = c.collect_each.new.windows in
    let ranges : map key_of more ≡ map key_of own.windows.items = c.collect_each.ensures.ranges ∙ ap (map key_of) c.deref_mut.ensures.value in
    let is = with_items_is own.windows more (omega (arith, own.windows.ok.0, length-map more key_of, ap length ranges, length-map own.windows.items key_of)) in
    λ contents before. subst (λ ws. StandIn ws contents) (sym is) (c.collect_each.ensures.stand contents (subst (λ ws. StandIn ws contents) (sym (c.deref_mut.ensures.value ∙ same)) before))

pub invariant_of-self-in_err-answer : goal.invariant_of-self-in_err-answer
invariant_of-self-in_err-answer c =
    let own = c.self.inside in
    let same : own.windows.items ≡ c.args.self.now.windows = ap (λ (v : SlotView). v.windows) c.self.view_is in
    let more = c.collect_each.new.windows in
    let ranges : map key_of more ≡ map key_of own.windows.items = c.collect_each.ensures.ranges ∙ ap (map key_of) c.deref_mut.ensures.value in
    let is = with_items_is own.windows more (omega (arith, own.windows.ok.0, length-map more key_of, ap length ranges, length-map own.windows.items key_of)) in
    subst (λ ws. IsSlot own.terms own.collected c.args.t ws own.indices.items) (sym is) (record {
      of_terms = subst (λ keys. AllZip (λ term index. slice_get keys index ≡ Some (term_key term)) own.terms own.indices.items) (sym ranges) c.self.invariant.of_terms;
      picked = subst (λ keys. ArePicked keys (map term_key own.terms)) (sym ranges) c.self.invariant.picked;
      since = c.collect_each.ensures.since own.collected (subst (AllByRecursion (λ it. own.collected ≤ it.window.moment)) (sym c.deref_mut.ensures.value) c.self.invariant.since);
      moments = c.collect_each.ensures.moments;
    })

pub invariant_of-self-2 : goal.invariant_of-self-2
invariant_of-self-2 c =
    let own = c.self.inside in
    let same : own.windows.items ≡ c.args.self.now.windows = ap (λ (v : SlotView). v.windows) c.self.view_is in
    let more = c.collect_each.new.windows in
    let ranges : map key_of more ≡ map key_of own.windows.items = c.collect_each.ensures.ranges ∙ ap (map key_of) c.deref_mut.ensures.value in
    let is = with_items_is own.windows more (omega (arith, own.windows.ok.0, length-map more key_of, ap length ranges, length-map own.windows.items key_of)) in
    let at = at_moment more c.args.t c.in_ok-partials.ensures.moved in
    subst (λ ws. IsSlot own.terms c.args.t c.args.t ws own.indices.items) (sym is) (record {
      of_terms = subst (λ keys. AllZip (λ term index. slice_get keys index ≡ Some (term_key term)) own.terms own.indices.items) (sym ranges) c.self.invariant.of_terms;
      picked = subst (λ keys. ArePicked keys (map term_key own.terms)) (sym ranges) c.self.invariant.picked;
      since = at.0;
      moments = at.1;
    })

pub returns-clause-partials : goal.returns-clause-partials
returns-clause-partials c = λ entries exact.
    let own = c.self.inside in
    let same : own.windows.items ≡ c.args.self.now.windows = ap (λ (v : SlotView). v.windows) c.self.view_is in
    let given = c.in_ok-partials.ensures.partials entries (subst (λ ws. AreExactIn ws entries) (sym (c.deref_mut.ensures.value ∙ same)) exact) in
    let given_of = subst (λ is. AllZip (IsPartialAt own.windows.items entries c.args.t) is c.in_ok-partials.partials.items) c.deref.ensures.value (subst (λ ws. AllZip (IsPartialAt ws entries c.args.t) c.deref.result.now c.in_ok-partials.partials.items) c.deref_mut.ensures.value given) in
    c.in_ok-answer.ensures.partials ∙ partials_of own.windows.items entries c.args.t own.terms own.indices.items c.in_ok-partials.partials.items c.self.invariant.of_terms given_of
    ∙ ap (λ (v : SlotView). map (λ (term : Term). partial entries term c.args.t) v.terms) c.self.view_is

pub returns-clause-stand : goal.returns-clause-stand
returns-clause-stand c =
    let own = c.self.inside in
    let same : own.windows.items ≡ c.args.self.now.windows = ap (λ (v : SlotView). v.windows) c.self.view_is in
    let more = c.collect_each.new.windows in
    let ranges : map key_of more ≡ map key_of own.windows.items = c.collect_each.ensures.ranges ∙ ap (map key_of) c.deref_mut.ensures.value in
    let is = with_items_is own.windows more (omega (arith, own.windows.ok.0, length-map more key_of, ap length ranges, length-map own.windows.items key_of)) in
    λ contents before. subst (λ ws. StandIn ws contents) (sym is) (c.collect_each.ensures.stand contents (subst (λ ws. StandIn ws contents) (sym (c.deref_mut.ensures.value ∙ same)) before))

pub returns-in_err-partials-clause-most : goal.returns-in_err-partials-clause-most
returns-in_err-partials-clause-most c =
    let own = c.self.inside in
    let same : own.windows.items ≡ c.args.self.now.windows = ap (λ (v : SlotView). v.windows) c.self.view_is in
    let more = c.collect_each.new.windows in
    let ranges : map key_of more ≡ map key_of own.windows.items = c.collect_each.ensures.ranges ∙ ap (map key_of) c.deref_mut.ensures.value in
    let is = with_items_is own.windows more (omega (arith, own.windows.ok.0, length-map more key_of, ap length ranges, length-map own.windows.items key_of)) in
    λ most all. subst (AllByRecursion (λ it. it.window.most ≡ most)) (sym is) (c.collect_each.ensures.most most (subst (AllByRecursion (λ it. it.window.most ≡ most)) (sym (c.deref_mut.ensures.value ∙ same)) all))

pub returns-in_err-answer-clause-most : goal.returns-in_err-answer-clause-most
returns-in_err-answer-clause-most c =
    let own = c.self.inside in
    let same : own.windows.items ≡ c.args.self.now.windows = ap (λ (v : SlotView). v.windows) c.self.view_is in
    let more = c.collect_each.new.windows in
    let ranges : map key_of more ≡ map key_of own.windows.items = c.collect_each.ensures.ranges ∙ ap (map key_of) c.deref_mut.ensures.value in
    let is = with_items_is own.windows more (omega (arith, own.windows.ok.0, length-map more key_of, ap length ranges, length-map own.windows.items key_of)) in
    λ most all. subst (AllByRecursion (λ it. it.window.most ≡ most)) (sym is) (c.collect_each.ensures.most most (subst (AllByRecursion (λ it. it.window.most ≡ most)) (sym (c.deref_mut.ensures.value ∙ same)) all))

pub returns-clause-most : goal.returns-clause-most
returns-clause-most c =
    let own = c.self.inside in
    let same : own.windows.items ≡ c.args.self.now.windows = ap (λ (v : SlotView). v.windows) c.self.view_is in
    let more = c.collect_each.new.windows in
    let ranges : map key_of more ≡ map key_of own.windows.items = c.collect_each.ensures.ranges ∙ ap (map key_of) c.deref_mut.ensures.value in
    let is = with_items_is own.windows more (omega (arith, own.windows.ok.0, length-map more key_of, ap length ranges, length-map own.windows.items key_of)) in
    λ most all. subst (AllByRecursion (λ it. it.window.most ≡ most)) (sym is) (c.collect_each.ensures.most most (subst (AllByRecursion (λ it. it.window.most ≡ most)) (sym (c.deref_mut.ensures.value ∙ same)) all))

pub returns-clause-sums : goal.returns-clause-sums
returns-clause-sums c = λ contents stand.
    let own = c.self.inside in
    let same : own.windows.items ≡ c.args.self.now.windows = ap (λ (v : SlotView). v.windows) c.self.view_is in
    let given = c.in_ok-partials.ensures.sums contents (subst (λ ws. StandIn ws contents) (sym (c.deref_mut.ensures.value ∙ same)) stand) in
    let given_of = subst (λ is. AllZip (IsSumAt own.windows.items c.args.t contents) is c.in_ok-partials.partials.items) c.deref.ensures.value (subst (λ ws. AllZip (IsSumAt ws c.args.t contents) c.deref.result.now c.in_ok-partials.partials.items) c.deref_mut.ensures.value given) in
    subst (λ (v : SlotView). AreSums v.windows c.args.t contents v.terms c.in_ok-answer.answer.partials) c.self.view_is
    (subst (AreSums own.windows.items c.args.t contents own.terms) (sym c.in_ok-answer.ensures.partials) (sums_of own.windows.items c.args.t contents own.terms own.indices.items c.in_ok-partials.partials.items c.self.invariant.of_terms given_of))

pub returns-clause-within : goal.returns-clause-within
returns-clause-within c = λ most all.
    let own = c.self.inside in
    let same : own.windows.items ≡ c.args.self.now.windows = ap (λ (v : SlotView). v.windows) c.self.view_is in
    subst (AllByRecursion (IsWithin most)) (sym c.in_ok-answer.ensures.partials) (c.in_ok-partials.ensures.within most (subst (AllByRecursion (λ it. it.window.most ≡ most)) (sym (c.deref_mut.ensures.value ∙ same)) all))

pub returns-clause-each : goal.returns-clause-each
returns-clause-each c =
    let own = c.self.inside in
    ap length c.in_ok-answer.ensures.partials ∙ c.in_ok-partials.ensures.each ∙ ap length c.deref.ensures.value
    ∙ AllZip-long (IsWindowOf own.windows.items) own.terms own.indices.items c.self.invariant.of_terms ∙ ap (λ (v : SlotView). length v.terms) c.self.view_is

pub returns-clause-visits : goal.returns-clause-visits
returns-clause-visits c = λ entries exact.
    let own = c.self.inside in
    let same : own.windows.items ≡ c.args.self.now.windows = ap (λ (v : SlotView). v.windows) c.self.view_is in
    let few = c.collect_each.ensures.few entries own.collected (subst (λ ws. AreExactIn ws entries) (sym (c.deref_mut.ensures.value ∙ same)) exact) (subst (AllByRecursion (λ it. own.collected ≤ it.window.moment)) (sym c.deref_mut.ensures.value) c.self.invariant.since) in
    let for_terms = terms-visits own.windows.items own.terms entries own.collected c.args.t c.self.invariant.picked in
    subst (λ (v : SlotView). HasVisits (sum_by (visits_for entries v.collected c.args.t) v.terms) c.args.meter.now c.collect_each.new.meter) c.self.view_is
    (few.0, omega (arith, few.1, for_terms, ap (λ ws. sum_by (visits_by entries own.collected c.args.t) (map key_of ws)) c.deref_mut.ensures.value))

pub returns-in_err-partials-clause-visits : goal.returns-in_err-partials-clause-visits
returns-in_err-partials-clause-visits c = λ entries exact.
    let own = c.self.inside in
    let same : own.windows.items ≡ c.args.self.now.windows = ap (λ (v : SlotView). v.windows) c.self.view_is in
    let few = c.collect_each.ensures.few entries own.collected (subst (λ ws. AreExactIn ws entries) (sym (c.deref_mut.ensures.value ∙ same)) exact) (subst (AllByRecursion (λ it. own.collected ≤ it.window.moment)) (sym c.deref_mut.ensures.value) c.self.invariant.since) in
    let for_terms = terms-visits own.windows.items own.terms entries own.collected c.args.t c.self.invariant.picked in
    subst (λ (v : SlotView). HasVisits (sum_by (visits_for entries v.collected c.args.t) v.terms) c.args.meter.now c.collect_each.new.meter) c.self.view_is
    (few.0, omega (arith, few.1, for_terms, ap (λ ws. sum_by (visits_by entries own.collected c.args.t) (map key_of ws)) c.deref_mut.ensures.value))

pub returns-in_err-answer-clause-visits : goal.returns-in_err-answer-clause-visits
returns-in_err-answer-clause-visits c = λ entries exact.
    let own = c.self.inside in
    let same : own.windows.items ≡ c.args.self.now.windows = ap (λ (v : SlotView). v.windows) c.self.view_is in
    let few = c.collect_each.ensures.few entries own.collected (subst (λ ws. AreExactIn ws entries) (sym (c.deref_mut.ensures.value ∙ same)) exact) (subst (AllByRecursion (λ it. own.collected ≤ it.window.moment)) (sym c.deref_mut.ensures.value) c.self.invariant.since) in
    let for_terms = terms-visits own.windows.items own.terms entries own.collected c.args.t c.self.invariant.picked in
    subst (λ (v : SlotView). HasVisits (sum_by (visits_for entries v.collected c.args.t) v.terms) c.args.meter.now c.collect_each.new.meter) c.self.view_is
    (few.0, omega (arith, few.1, for_terms, ap (λ ws. sum_by (visits_by entries own.collected c.args.t) (map key_of ws)) c.deref_mut.ensures.value))

pub returns-in_err-partials-clause-ranges : goal.returns-in_err-partials-clause-ranges
returns-in_err-partials-clause-ranges c =
    let own = c.self.inside in
    let same : own.windows.items ≡ c.args.self.now.windows = ap (λ (v : SlotView). v.windows) c.self.view_is in
    let more = c.collect_each.new.windows in
    let ranges : map key_of more ≡ map key_of own.windows.items = c.collect_each.ensures.ranges ∙ ap (map key_of) c.deref_mut.ensures.value in
    let is = with_items_is own.windows more (omega (arith, own.windows.ok.0, length-map more key_of, ap length ranges, length-map own.windows.items key_of)) in
    ap (map key_of) is ∙ ranges ∙ ap (map key_of) same

pub returns-in_err-answer-clause-ranges : goal.returns-in_err-answer-clause-ranges
returns-in_err-answer-clause-ranges c =
    let own = c.self.inside in
    let same : own.windows.items ≡ c.args.self.now.windows = ap (λ (v : SlotView). v.windows) c.self.view_is in
    let more = c.collect_each.new.windows in
    let ranges : map key_of more ≡ map key_of own.windows.items = c.collect_each.ensures.ranges ∙ ap (map key_of) c.deref_mut.ensures.value in
    let is = with_items_is own.windows more (omega (arith, own.windows.ok.0, length-map more key_of, ap length ranges, length-map own.windows.items key_of)) in
    ap (map key_of) is ∙ ranges ∙ ap (map key_of) same

pub returns-clause-ranges : goal.returns-clause-ranges
returns-clause-ranges c =
    let own = c.self.inside in
    let same : own.windows.items ≡ c.args.self.now.windows = ap (λ (v : SlotView). v.windows) c.self.view_is in
    let more = c.collect_each.new.windows in
    let ranges : map key_of more ≡ map key_of own.windows.items = c.collect_each.ensures.ranges ∙ ap (map key_of) c.deref_mut.ensures.value in
    let is = with_items_is own.windows more (omega (arith, own.windows.ok.0, length-map more key_of, ap length ranges, length-map own.windows.items key_of)) in
    ap (map key_of) is ∙ ranges ∙ ap (map key_of) same
