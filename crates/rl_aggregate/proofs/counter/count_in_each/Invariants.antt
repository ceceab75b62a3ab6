-- The line is counted in the tallies so far.
use Rattle.std.proofs.Common.{◌≡◌, ◌++◌, map, take, drop}
use Rattle.rl_aggregate.specs.Accumulators.{with_line}
use Rattle.rl_aggregate.proofs.counter.count_in_each.Given as goal

abbrev pub invariant-loop-index : goal.invariant-loop-index
invariant-loop-index l = record {
  counted : l.accumulators ≡ map (with_line l.labels l.text) (take l.index l.initial.accumulators) ++ drop l.index l.initial.accumulators;
  line : l.line ≡ record { labels = l.labels; text = l.text };
}
