-- The groups of the samples so far.
use Rattle.std.proofs.Common.{◌≡◌, take}
use Rattle.rl_aggregate.specs.Grouping.{groups}
use Rattle.rl_aggregate.proofs.aggregation.grouped.Given as goal

abbrev pub invariant-loop-sample : goal.invariant-loop-sample
invariant-loop-sample l = l.groups ≡ groups l.operator l.grouping (take l.sample-index l.samples)
