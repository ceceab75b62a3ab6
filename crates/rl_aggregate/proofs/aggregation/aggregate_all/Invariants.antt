-- The vector so far is what the aggregations after those that are left make.
use Rattle.std.proofs.Common.{◌≡◌, ◌++◌, List, length}
use Rattle.rl_query.specs.declared.aggregation.Aggregation.{Aggregation}
use Rattle.rl_aggregate.specs.Grouping.{aggregated_by}
use Rattle.rl_aggregate.proofs.aggregation.aggregate_all.Given as goal

abbrev pub invariant-loop-aggregation : goal.invariant-loop-aggregation
invariant-loop-aggregation l = (done : List Aggregation) × (l.rest ++ done ≡ l.aggregations) × (l.vector.items ≡ aggregated_by done l.fn.samples.items)

abbrev pub decreases-loop-aggregation : goal.decreases-loop-aggregation
decreases-loop-aggregation l = length l.rest
