-- A vector in between is in the order of its labels, and its sum fits.
use Rattle.std.proofs.Common.{ap, ◌∙◌, ◌-◌, ◌^◌, arith}
use Rattle.rl_aggregate.specs.Grouping.{rises, total}
use Rattle.rl_aggregate.specs.laws.Groups.{rises-aggregated_by, total-aggregated_by}
use Rattle.rl_aggregate.proofs.aggregation.aggregate_all.Goals as goal

pub aggregate-requires-clause-rises : goal.aggregate-requires-clause-rises
aggregate-requires-clause-rises c =
    let so_far = c.loop-aggregation.invariant in
    ap rises so_far.2 ∙ rises-aggregated_by so_far.0 c.args.samples.items c.requires.rises

pub aggregate-requires-clause-fits : goal.aggregate-requires-clause-fits
aggregate-requires-clause-fits c =
    let so_far = c.loop-aggregation.invariant in
    omega (arith, ap total so_far.2, total-aggregated_by (2 ^ 128 - 1) so_far.0 c.args.samples.items (omega (arith, c.requires.fits)) (omega (arith, c.args.samples.ok.0)))
