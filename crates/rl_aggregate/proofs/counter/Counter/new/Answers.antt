-- Nothing is within anything.
use Rattle.std.proofs.Common.{◌-◌, sym, subst, arith}
use Rattle.std.specs.List.{AllByRecursion}
use Rattle.rl_aggregate.specs.Limited.{IsWithin}
use Rattle.rl_aggregate.specs.Accumulators.{AccumulatorView}
use Rattle.rl_aggregate.proofs.Counters.{all_nothing}
use Rattle.rl_aggregate.proofs.counter.Counter.new.Goals as goal

pub invariant_of-result : goal.invariant_of-result
invariant_of-result c =
    let lines = c.args.most - c.args.most in record {
      few = c.requires.few;
      fewer = omega arith;
      within = subst (λ accumulators. AllByRecursion (λ (accumulator : AccumulatorView). IsWithin lines accumulator.found) accumulators) (sym c.in_ok-accumulators.ensures) (all_nothing lines c.args.pipelines.now);
    }
