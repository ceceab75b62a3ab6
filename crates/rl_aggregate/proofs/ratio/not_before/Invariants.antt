-- What stands before the rest stands before the labels.
use Rattle.std.proofs.Common.{◌≡◌, length}
use Rattle.rl_aggregate.specs.Ratios.{not_before}
use Rattle.rl_aggregate.proofs.ratio.not_before.Given as goal

abbrev pub invariant-loop-first : goal.invariant-loop-first
invariant-loop-first l = not_before l.labels l.rest ≡ not_before l.labels l.divisors

abbrev pub decreases-loop-first : goal.decreases-loop-first
decreases-loop-first l = length l.rest
