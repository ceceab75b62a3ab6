-- What each accumulator has counted is within what may be counted.
use Rattle.std.proofs.Common.{sym, ap, subst}
use Rattle.std.specs.List.{AllByRecursion}
use Rattle.std.proofs.lemmas.Result.{IfOk-weaker}
use Rattle.rl_aggregate.specs.Counter.{CounterView}
use Rattle.rl_aggregate.specs.Limited.{IsWithin}
use Rattle.rl_aggregate.proofs.Counters.{counter-room, counter-within}
use Rattle.rl_aggregate.proofs.counter.Counter.partials.Goals as goal

pub partials_of-requires : goal.partials_of-requires
partials_of-requires c = counter-room c.self.invariant

pub returns-clause-within : goal.returns-clause-within
returns-clause-within c = IfOk-weaker c.partials_of.result _ _ (λ partials found.
    subst (λ most. AllByRecursion (IsWithin most) partials.items) (ap (λ (counter : CounterView). counter.most) c.self.view_is)
    (subst (λ items. AllByRecursion (IsWithin c.self.inside.most) items) (sym found) (counter-within c.self.invariant))) c.partials_of.ensures
