-- What is kept of the samples so far, and the counts of their groups.
use Rattle.std.proofs.Common.{◌≡◌, ◌++◌}
use Rattle.std.specs.List.{filter}
use Rattle.rl_query.specs.declared.aggregation.VectorOperator.TheVariants.{Count}
use Rattle.rl_aggregate.specs.Grouping.{groups, is_among_first}
use Rattle.rl_aggregate.proofs.topk.first_of_each.Given as goal

abbrev pub invariant-loop-sample : goal.invariant-loop-sample
invariant-loop-sample l = record {
  split : l.yielded ++ l.sample-iterator.rest.items ≡ l.fn.ranked.items;
  counts : l.counts ≡ groups Count l.grouping l.yielded;
  kept : l.kept.items ≡ filter (is_among_first l.k l.grouping l.fn.ranked.items) l.yielded;
}
