-- A run of a label set adds to its total.
use Rattle.std.proofs.Common.{subst}
use Rattle.rl_aggregate.specs.Partials.{Fits}
use Rattle.rl_aggregate.specs.Runs.{with_volume}
use Rattle.rl_aggregate.proofs.Accumulating.{added-fits}
use Rattle.rl_aggregate.proofs.partial.Partial.add_owned.Goals as goal

pub add_owned-requires : goal.add_owned-requires
add_owned-requires c = added-fits c.args.self.now c.in-Some.labels c.args.run.volume (subst (λ own. Fits (with_volume own c.args.run.volume c.args.self.now)) c.in-Some.is c.requires)
