-- The windows that were built answer the terms, and take the place of those of the slot.
use Rattle.std.proofs.Common.{◌≡◌, ◌≤◌, ◌==◌, true, map, Some, sym, ap, subst, ◌∙◌, arith}
use Rattle.std.specs.Prelude.{if◌then◌else◌}
use Rattle.std.specs.List.{AllByRecursion}
use Rattle.rl_chunks.specs.StoreState.{greatest}
use Rattle.rl_labels.specs.Quantity.{greatest_moment}
use Rattle.rl_query.specs.declared.query.Term.{Term}
use Rattle.rl_aggregate.specs.Limited.{IsWithin}
use Rattle.rl_aggregate.specs.Partials.{partial}
use Rattle.rl_windows.specs.Ranges.{elements_for}
use Rattle.rl_slots.specs.Slots.{collected_in, with_slot, AreExactIn, AreSums, ContentsIn, IsLiveIn, SlotView, StandIn}
use Rattle.rl_slots.specs.laws.Living.{collected-set, live-new, live-set}
use Rattle.rl_slots.specs.declared.range_window.RangeWindow.{RangeWindow}
use Rattle.rl_shard.specs.Collecting.{shown, AreReadFor}
use Rattle.rl_shard.specs.Live.{windowed, AreRight}
use Rattle.rl_shard.specs.ShardState.{PartsView}
use Rattle.rl_shard.proofs.Asked.{elements_at, exact_at, most_at, partials_of_all, read_for, stand_at}
use Rattle.rl_shard.proofs.Right.{right_same, right_set}
use Rattle.rl_shard.proofs.parts.ShardParts.build.Goals as goal

pub invariant_of-self-2 : goal.invariant_of-self-2
invariant_of-self-2 g c =
    let old = c.self.inside.streams in
    let requests = c.self.inside.requests in
    let windows = c.in_ok-built.built.windows.items in
    let built = c.in_ok-built.ensures.built in
    let look = c.windows_of.ensures.same in
    let slot = c.collect.new.self in
    let same : c.new-slot.result.windows ≡ windows = ap (λ (s : SlotView). s.windows) c.new-slot.ensures in
    let most = c.collect.ensures.most old.limits.entries (subst (AllByRecursion (λ (it : RangeWindow). it.window.most ≡ old.limits.entries)) (sym same) (most_at old requests c.args.t windows built)) in
    let exact = λ (honest : old.seen.honest ≡ true). c.collect.ensures.stand (λ _ code. elements_for code (windowed old requests)) (subst (λ ws. AreExactIn ws (windowed old requests)) (sym same) (exact_at old requests c.args.t windows built honest)) in (
      subst (λ next. next ≤ greatest) (sym look.next) c.self.invariant.0,
      subst (AreRight c.windows_of.new.streams requests) (sym c.in_ok-set.ensures.ok)
          (right_same old c.windows_of.new.streams requests (with_slot slot c.self.inside.slots) look.limits look.seen.honest look.held (right_set old requests c.self.inside.slots slot most exact c.self.invariant.1)),
    )

pub returns-clause-within : goal.returns-clause-within
returns-clause-within g c =
    let old = c.self.inside.streams in
    let windows = c.in_ok-built.built.windows.items in
    let same : c.new-slot.result.windows ≡ windows = ap (λ (s : SlotView). s.windows) c.new-slot.ensures in
    subst (λ (p : PartsView). AllByRecursion (IsWithin p.streams.limits.entries) c.in_ok-answer.answer.partials) c.self.view_is
    (c.in_ok-answer.ensures.within old.limits.entries (subst (AllByRecursion (λ (it : RangeWindow). it.window.most ≡ old.limits.entries)) (sym same) (most_at old c.self.inside.requests c.args.t windows c.in_ok-built.ensures.built)))

pub returns-clause-read : goal.returns-clause-read
returns-clause-read g c =
    let old = c.self.inside.streams in
    let requests = c.self.inside.requests in
    let windows = c.in_ok-built.built.windows.items in
    let built = c.in_ok-built.ensures.built in
    let contents : ContentsIn = λ index _. elements_at old requests c.args.t windows built index in
    let same : c.new-slot.result.windows ≡ windows = ap (λ (s : SlotView). s.windows) c.new-slot.ensures in
    let sums = c.in_ok-answer.ensures.sums contents (subst (λ ws. StandIn ws contents) (sym same) (stand_at old requests c.args.t windows built)) in
    let given = subst (λ (s : SlotView). AreSums s.windows c.args.t contents s.terms c.in_ok-answer.answer.partials) c.new-slot.ensures sums in
    subst (λ (p : PartsView). AreReadFor p.streams p.requests c.args.terms c.args.t c.in_ok-answer.answer.partials) c.self.view_is (read_for old requests c.args.t windows built c.args.terms c.in_ok-answer.answer.partials given)

pub returns-clause-exact : goal.returns-clause-exact
returns-clause-exact g c =
    let old = c.self.inside.streams in
    let requests = c.self.inside.requests in
    let windows = c.in_ok-built.built.windows.items in
    let same : c.new-slot.result.windows ≡ windows = ap (λ (s : SlotView). s.windows) c.new-slot.ensures in
    let moments = subst (λ m. m ≤ greatest_moment) c.get-moment.ensures.value c.get-moment.ensures.bound in
    subst (λ (p : PartsView). p.streams.seen.honest ≡ true → c.in_ok-answer.answer.partials ≡ map (λ (term : Term). partial (shown p.streams p.requests) term c.args.t) c.args.terms) c.self.view_is
    (λ honest.
    c.in_ok-answer.ensures.partials (windowed old requests) (subst (λ ws. AreExactIn ws (windowed old requests)) (sym same) (exact_at old requests c.args.t windows c.in_ok-built.ensures.built honest))
    ∙ ap (λ (s : SlotView). map (λ (term : Term). partial (windowed old requests) term c.args.t) s.terms) c.new-slot.ensures
    ∙ partials_of_all old requests c.args.terms c.args.t moments)

pub returns-clause-live : goal.returns-clause-live
returns-clause-live g c = λ u later.
    let slot = c.collect.new.self in
    let slots = c.self.inside.slots in
    let asked = c.collect.ensures.asked in
    let reached = asked.2 in
    let number = asked.0 ∙ ap (λ (s : SlotView). s.number) c.new-slot.ensures in
    let terms = asked.1 ∙ ap (λ (s : SlotView). s.terms) c.new-slot.ensures in
    subst (IsLiveIn c.args.number c.args.terms u) (sym c.in_ok-set.ensures.ok)
    (subst (λ n. IsLiveIn n c.args.terms u (with_slot slot slots)) number (subst (λ ts. IsLiveIn slot.number ts u (with_slot slot slots)) terms (live-new slot slots u (omega (arith, later, reached)))))

pub returns-clause-kept : goal.returns-clause-kept
returns-clause-kept g c = λ other asked u apart live.
    let slot = c.collect.new.self in
    let slots = c.self.inside.slots in
    let number = c.collect.ensures.asked.0 ∙ ap (λ (s : SlotView). s.number) c.new-slot.ensures in
    subst (IsLiveIn other asked u) (sym c.in_ok-set.ensures.ok)
    (live-set slot slots other asked u (λ is. apart (is ∙ number)) (subst (λ (p : PartsView). IsLiveIn other asked u p.slots) (sym c.self.view_is) live))

pub returns-clause-collected : goal.returns-clause-collected
returns-clause-collected g c = λ other.
    let slot = c.collect.new.self in
    let slots = c.self.inside.slots in
    let number = c.collect.ensures.asked.0 ∙ ap (λ (s : SlotView). s.number) c.new-slot.ensures in
    let moment = c.in_ok-answer.ensures.collected in
    subst (λ (p : PartsView). collected_in other c.set.new.self ≡ (if c.args.number == other then Some c.args.t else collected_in other p.slots)) c.self.view_is
    (ap (collected_in other) c.in_ok-set.ensures.ok ∙ collected-set slot slots other ∙ (λ i. if number i == other then Some (moment i) else collected_in other slots))
