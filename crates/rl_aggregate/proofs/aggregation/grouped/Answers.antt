-- Each sample goes into its group.
use Rattle.std.proofs.Common.{◌∙◌, arith}
use Rattle.rl_aggregate.proofs.Grouped.{next_fits, next_grouped}
use Rattle.rl_aggregate.proofs.aggregation.grouped.Goals as goal

pub add-requires : goal.add-requires
add-requires c = next_fits c.args.operator c.args.grouping.now c.args.samples.now c.loop-sample.sample-index c.loop-sample.groups c.in_ok-labels-2.labels c.sample-item.result (omega arith) c.sample-item.is c.loop-sample.invariant c.in_ok-labels-2.ensures c.requires (omega arith)

pub loop-sample-preserved : goal.loop-sample-preserved
loop-sample-preserved c =
    c.in_ok-add.ensures ∙ next_grouped c.args.operator c.args.grouping.now c.args.samples.now c.loop-sample.sample-index c.loop-sample.groups c.in_ok-labels-2.labels c.sample-item.result (omega arith) c.sample-item.is c.loop-sample.invariant c.in_ok-labels-2.ensures
