-- Each accumulator has room for the line, and is within what may be counted with it.
use Rattle.std.proofs.Common.{◌-◌, sym, subst, arith}
use Rattle.std.specs.List.{AllByRecursion}
use Rattle.std.proofs.lemmas.List.{with_items_is}
use Rattle.rl_aggregate.specs.Counter.{IsCounter}
use Rattle.rl_aggregate.specs.Limited.{IsWithin}
use Rattle.rl_aggregate.specs.Accumulators.{AccumulatorView, HasRoom}
use Rattle.rl_aggregate.proofs.Counters.{some_left, counter-room-more, counter-more}
use Rattle.rl_aggregate.proofs.counter.Counter.count.Goals as goal

pub count_in_each-requires-clause-room : goal.count_in_each-requires-clause-room
count_in_each-requires-clause-room c =
    subst (λ accumulators. AllByRecursion (λ (accumulator : AccumulatorView). HasRoom 1 accumulator.found) accumulators) (sym c.deref_mut.ensures.value) (counter-room-more c.self.invariant (some_left c.self.inside.left c.if-self-eq0.false))

pub invariant_of-self-2 : goal.invariant_of-self-2
invariant_of-self-2 c =
    let most = c.self.inside.most in
    let left = c.self.inside.left in
    let more = c.count_in_each.new.accumulators in
    let before = subst (λ accumulators. AllByRecursion (λ (accumulator : AccumulatorView). IsWithin (most - left) accumulator.found) accumulators) (sym c.deref_mut.ensures.value) c.self.invariant.within in
    subst (IsCounter most (left - 1)) (sym (with_items_is c.self.inside.accumulators more (omega (arith, c.self.inside.accumulators.ok.0))))
    (counter-more c.self.invariant (some_left left c.if-self-eq0.false) more (c.count_in_each.ensures.within (most - left) before))
