-- The samples that a range aggregation gives are in the order of their labels.
use Rattle.std.proofs.Common.{ap, ◌∙◌}
use Rattle.rl_aggregate.specs.Grouping.{rises}
use Rattle.rl_aggregate.specs.laws.Bounds.{of_one_term-samples}
use Rattle.rl_aggregate.proofs.vector.term_vector.Goals as goal

pub aggregate_all-requires-clause-rises : goal.aggregate_all-requires-clause-rises
aggregate_all-requires-clause-rises c = ap rises c.in_ok-samples.ensures ∙ (of_one_term-samples c.args.term.now c.args.partial.now c.requires).order
