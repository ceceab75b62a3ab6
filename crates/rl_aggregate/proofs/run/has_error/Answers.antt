-- A label that a set has is not empty.
use Rattle.std.proofs.Common.{◌∙◌}
use Rattle.rl_aggregate.proofs.Accumulating.{has_error-found}
use Rattle.rl_aggregate.proofs.run.has_error.Goals as goal

pub returns : goal.returns
returns c = c.is_some.ensures ∙ has_error-found c.args.labels.now c.get.result c.get.ensures
