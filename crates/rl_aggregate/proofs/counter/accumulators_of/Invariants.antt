-- An accumulator of each pipeline so far.
use Rattle.std.proofs.Common.{◌≡◌, map, take}
use Rattle.rl_aggregate.specs.Accumulators.{nothing_counted}
use Rattle.rl_aggregate.proofs.counter.accumulators_of.Given as goal

abbrev pub invariant-loop-pipeline : goal.invariant-loop-pipeline
invariant-loop-pipeline l = l.accumulators.items ≡ map nothing_counted (take l.pipeline-index l.pipelines)
