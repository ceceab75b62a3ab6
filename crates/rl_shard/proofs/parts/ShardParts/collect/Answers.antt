-- What windows that are live answer.
use Rattle.std.proofs.Common.{◌≡◌, ◌≤◌, ◌+◌, ◌==◌, ◌⊎◌, true, List, length, map, Result, Ok, Err, IfSome, OnErr, Some, sym, ap, subst, ◌∙◌, inl}
use Rattle.std.specs.List.{sum_by, AllByRecursion}
use Rattle.std.specs.Option.{unwrap_or}
use Rattle.std.specs.Prelude.{if◌then◌else◌}
use Rattle.rl_labels.specs.Quantity.{greatest_moment}
use Rattle.rl_labels.specs.declared.entry.Entry.{Entry}
use Rattle.rl_query.specs.declared.query.Term.{Term}
use Rattle.rl_aggregate.specs.Limited.{IsWithin}
use Rattle.rl_aggregate.specs.Partials.{partial}
use Rattle.rl_slots.specs.Slots.{collected_in, visits_for, AreExact, IsLiveIn, SlotView}
use Rattle.rl_slots.specs.laws.Living.{live-moved}
use Rattle.rl_shard.specs.Collecting.{shown, AreReadFor}
use Rattle.rl_shard.specs.Live.{windowed}
use Rattle.rl_shard.specs.ShardState.{PartsView}
use Rattle.rl_shard.proofs.Asked.{apart_at, collected_at, found_at, live_from, live_later, partials_of_all, visits_live, visits_of_all}
use Rattle.rl_shard.proofs.Right.{right_others}
use Rattle.rl_shard.proofs.parts.ShardParts.collect.Goals as goal

-- what holds anyway
on_err : {A E : Type 0} {P : Type 0} (result : Result A E) → P → OnErr result P
on_err (Ok _) p = tt
on_err (Err _) p = p

pub invariant_of-self : goal.invariant_of-self
invariant_of-self g c = (c.self.invariant.0, right_others c.self.inside.streams c.self.inside.requests c.self.inside.slots c.collect.new.self (c.collect.ensures.most c.self.inside.streams.limits.entries) c.collect.ensures.stand c.self.invariant.1)

pub returns-in_err-collect-in-Some-clause-kept : goal.returns-in_err-collect-in-Some-clause-kept
returns-in_err-collect-in-Some-clause-kept g c = λ other asked u apart live.
    let slots = c.self.inside.slots in
    let index = c.in-Some.index in
    let is = c.in-Some.ensures.some in
    live-moved index c.args.t slots c.collect.new.self c.collect.ensures.moved other asked u (λ at. absurd (apart_at c.args.number other slots index apart is.1 at)) (subst (λ (p : PartsView). IsLiveIn other asked u p.slots) (sym c.self.view_is) live)

pub returns-in_err-collect-in-Some-clause-refused : goal.returns-in_err-collect-in-Some-clause-refused
returns-in_err-collect-in-Some-clause-refused g c = on_err c.from_residual.result (λ asked u later live.
    live-moved c.in-Some.index c.args.t c.self.inside.slots c.collect.new.self c.collect.ensures.moved c.args.number asked u (λ _. later) (subst (λ (p : PartsView). IsLiveIn c.args.number asked u p.slots) (sym c.self.view_is) live))

pub returns-in_err-collect-in-Some-clause-unread : goal.returns-in_err-collect-in-Some-clause-unread
returns-in_err-collect-in-Some-clause-unread g c = λ _.
    let slots = c.self.inside.slots in
    let index = c.in-Some.index in
    let is = c.in-Some.ensures.some in
    (ap (λ (p : PartsView). p.streams) c.self.view_is, c.collect.ensures.runs ∙ ap (λ (p : PartsView). p.meter.runs) c.self.view_is)

pub returns-in_err-collect-in-Some-clause-uncollected : goal.returns-in_err-collect-in-Some-clause-uncollected
returns-in_err-collect-in-Some-clause-uncollected g c = on_err c.from_residual.result (λ other. c.in_err-collect-in-Some.ensures.kept other ∙ ap (λ (p : PartsView). collected_in other p.slots) c.self.view_is)

pub returns-in_err-collect-in-Some-clause-visits : goal.returns-in_err-collect-in-Some-clause-visits
returns-in_err-collect-in-Some-clause-visits g c =
    let slots = c.self.inside.slots in
    let index = c.in-Some.index in
    let is = c.in-Some.ensures.some in
    let old = c.self.inside.streams in
    let requests = c.self.inside.requests in
    let moments = subst (λ m. m ≤ greatest_moment) c.get-moment.ensures.value c.get-moment.ensures.bound in
    let since = unwrap_or (collected_in c.args.number slots) 0 in
    subst (λ (p : PartsView). p.streams.seen.honest ≡ true → IsLiveIn c.args.number c.args.terms c.args.t p.slots → c.collect.new.meter.visits ≤ p.meter.visits + sum_by (visits_for (shown p.streams p.requests) (unwrap_or (collected_in c.args.number p.slots) 0) c.args.t) c.args.terms) c.self.view_is
    (λ honest _.
    let bound = visits_live c.args.number c.get.result.now c.args.t slots index (windowed old requests) c.self.inside.meter c.collect.new.meter is.1 is.0 is.2 (c.collect.ensures.visits (windowed old requests) (c.self.invariant.1.exact honest)) in
    subst (λ n. c.collect.new.meter.visits ≤ c.self.inside.meter.visits + n) (visits_of_all old requests c.args.terms since c.args.t moments) (subst (λ ts. c.collect.new.meter.visits ≤ c.self.inside.meter.visits + sum_by (visits_for (windowed old requests) since c.args.t) ts) c.get.ensures bound))

pub invariant_of-self-in-Some-1 : goal.invariant_of-self-in-Some-1
invariant_of-self-in-Some-1 g c = (c.self.invariant.0, right_others c.self.inside.streams c.self.inside.requests c.self.inside.slots c.collect.new.self (c.collect.ensures.most c.self.inside.streams.limits.entries) c.collect.ensures.stand c.self.invariant.1)

pub returns-in_ok-collect-in-Some-clause-each : goal.returns-in_ok-collect-in-Some-clause-each
returns-in_ok-collect-in-Some-clause-each g c =
    let slots = c.self.inside.slots in
    let index = c.in-Some.index in
    let is = c.in-Some.ensures.some in
    let found = found_at c.get.result.now c.args.t slots index is.0 is.2 in
    subst (λ o. IfSome o (λ (slot : SlotView). length c.in_ok-collect-in-Some.field-0.partials ≡ length slot.terms)) found.1 c.in_ok-collect-in-Some.ensures.each ∙ ap length (found.2.0 ∙ c.get.ensures)

pub returns-in_ok-collect-in-Some-clause-within : goal.returns-in_ok-collect-in-Some-clause-within
returns-in_ok-collect-in-Some-clause-within g c =
    subst (λ (p : PartsView). AllByRecursion (IsWithin p.streams.limits.entries) c.in_ok-collect-in-Some.field-0.partials) c.self.view_is (c.in_ok-collect-in-Some.ensures.within c.self.inside.streams.limits.entries c.self.invariant.1.most)

pub returns-in_ok-collect-in-Some-clause-read : goal.returns-in_ok-collect-in-Some-clause-read
returns-in_ok-collect-in-Some-clause-read g c =
    let slots = c.self.inside.slots in
    let index = c.in-Some.index in
    let is = c.in-Some.ensures.some in
    let live = subst (λ ts. IsLiveIn c.args.number ts c.args.t slots) c.get.ensures (live_from c.args.number c.get.result.now c.args.t slots index is.1 is.0 is.2) in
    subst (λ (p : PartsView). IsLiveIn c.args.number c.args.terms c.args.t p.slots ⊎ AreReadFor p.streams p.requests c.args.terms c.args.t c.in_ok-collect-in-Some.field-0.partials) c.self.view_is (inl live)

pub returns-in_ok-collect-in-Some-clause-exact : goal.returns-in_ok-collect-in-Some-clause-exact
returns-in_ok-collect-in-Some-clause-exact g c =
    let slots = c.self.inside.slots in
    let index = c.in-Some.index in
    let is = c.in-Some.ensures.some in
    let found = found_at c.get.result.now c.args.t slots index is.0 is.2 in
    let old = c.self.inside.streams in
    let requests = c.self.inside.requests in
    let partials = c.in_ok-collect-in-Some.field-0.partials in
    let moments = subst (λ m. m ≤ greatest_moment) c.get-moment.ensures.value c.get-moment.ensures.bound in
    let given = subst (λ o. IfSome o (λ (slot : SlotView). (entries : List Entry) → AreExact slots entries → partials ≡ map (λ (term : Term). partial entries term c.args.t) slot.terms)) found.1 c.in_ok-collect-in-Some.ensures.partials in
    subst (λ (p : PartsView). p.streams.seen.honest ≡ true → partials ≡ map (λ (term : Term). partial (shown p.streams p.requests) term c.args.t) c.args.terms) c.self.view_is
    (λ honest. given (windowed old requests) (c.self.invariant.1.exact honest) ∙ ap (map (λ (term : Term). partial (windowed old requests) term c.args.t)) (found.2.0 ∙ c.get.ensures) ∙ partials_of_all old requests c.args.terms c.args.t moments)

pub returns-in_ok-collect-in-Some-clause-live : goal.returns-in_ok-collect-in-Some-clause-live
returns-in_ok-collect-in-Some-clause-live g c = λ u later.
    let slots = c.self.inside.slots in
    let index = c.in-Some.index in
    let is = c.in-Some.ensures.some in
    let live = subst (λ ts. IsLiveIn c.args.number ts c.args.t slots) c.get.ensures (live_from c.args.number c.get.result.now c.args.t slots index is.1 is.0 is.2) in
    live-moved index c.args.t slots c.collect.new.self c.collect.ensures.moved c.args.number c.args.terms u (λ _. later) (live_later c.args.number c.args.terms c.args.t u slots later live)

pub returns-in_ok-collect-in-Some-clause-kept : goal.returns-in_ok-collect-in-Some-clause-kept
returns-in_ok-collect-in-Some-clause-kept g c = λ other asked u apart live.
    let slots = c.self.inside.slots in
    let index = c.in-Some.index in
    let is = c.in-Some.ensures.some in
    live-moved index c.args.t slots c.collect.new.self c.collect.ensures.moved other asked u (λ at. absurd (apart_at c.args.number other slots index apart is.1 at)) (subst (λ (p : PartsView). IsLiveIn other asked u p.slots) (sym c.self.view_is) live)

pub returns-in_ok-collect-in-Some-clause-unread : goal.returns-in_ok-collect-in-Some-clause-unread
returns-in_ok-collect-in-Some-clause-unread g c = λ _.
    let slots = c.self.inside.slots in
    let index = c.in-Some.index in
    let is = c.in-Some.ensures.some in
    (ap (λ (p : PartsView). p.streams) c.self.view_is, c.collect.ensures.runs ∙ ap (λ (p : PartsView). p.meter.runs) c.self.view_is)

pub returns-in_ok-collect-in-Some-clause-collected : goal.returns-in_ok-collect-in-Some-clause-collected
returns-in_ok-collect-in-Some-clause-collected g c = λ other.
    let slots = c.self.inside.slots in
    let index = c.in-Some.index in
    let is = c.in-Some.ensures.some in
    subst (λ (p : PartsView). collected_in other c.collect.new.self ≡ (if c.args.number == other then Some c.args.t else collected_in other p.slots)) c.self.view_is
    (collected_at c.args.number index c.args.t slots c.collect.new.self is.1 c.in_ok-collect-in-Some.ensures.collected c.collect.ensures.others other)

pub returns-in_ok-collect-in-Some-clause-visits : goal.returns-in_ok-collect-in-Some-clause-visits
returns-in_ok-collect-in-Some-clause-visits g c =
    let slots = c.self.inside.slots in
    let index = c.in-Some.index in
    let is = c.in-Some.ensures.some in
    let old = c.self.inside.streams in
    let requests = c.self.inside.requests in
    let moments = subst (λ m. m ≤ greatest_moment) c.get-moment.ensures.value c.get-moment.ensures.bound in
    let since = unwrap_or (collected_in c.args.number slots) 0 in
    subst (λ (p : PartsView). p.streams.seen.honest ≡ true → IsLiveIn c.args.number c.args.terms c.args.t p.slots → c.collect.new.meter.visits ≤ p.meter.visits + sum_by (visits_for (shown p.streams p.requests) (unwrap_or (collected_in c.args.number p.slots) 0) c.args.t) c.args.terms) c.self.view_is
    (λ honest _.
    let bound = visits_live c.args.number c.get.result.now c.args.t slots index (windowed old requests) c.self.inside.meter c.collect.new.meter is.1 is.0 is.2 (c.collect.ensures.visits (windowed old requests) (c.self.invariant.1.exact honest)) in
    subst (λ n. c.collect.new.meter.visits ≤ c.self.inside.meter.visits + n) (visits_of_all old requests c.args.terms since c.args.t moments) (subst (λ ts. c.collect.new.meter.visits ≤ c.self.inside.meter.visits + sum_by (visits_for (windowed old requests) since c.args.t) ts) c.get.ensures bound))
