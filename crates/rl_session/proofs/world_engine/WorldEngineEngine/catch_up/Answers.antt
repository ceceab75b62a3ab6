-- The call is a turn of the world, which keeps its groups, sinks and shards.
use Rattle.std.proofs.Common.{map, sym, ap, subst, ◌∙◌}
use Rattle.rl_world.specs.WorldRun.{Turned}
use Rattle.rl_world.specs.WorldState.{WorldBooks}
use Rattle.rl_world.specs.WorldStep.{as_reply}
use Rattle.rl_world.specs.declared.step.Reply.TheVariants as replies
use Rattle.rl_world.specs.declared.step.Step.TheVariants as steps
use Rattle.rl_session.specs.WorldEngine.{listed}
use Rattle.rl_session.proofs.Following.{turn_alike}
use Rattle.rl_session.proofs.world_engine.WorldEngineEngine.catch_up.Goals as goal

pub invariant_of-self : goal.invariant_of-self
invariant_of-self g c = (c.self.invariant.0, c.self.invariant.1 ∙ sym (turn_alike c.self.inside.world (steps.CatchUp c.args.group) (as_reply replies.CaughtUp c.catch_up.result) c.catch_up.new.self c.catch_up.ensures.turned).1)

pub returns-clause-answer : goal.returns-clause-answer
returns-clause-answer g c = subst (λ (world : WorldBooks). Turned world (steps.CatchUp c.args.group) (as_reply replies.CaughtUp c.catch_up.result) c.catch_up.new.self) c.self.view_is c.catch_up.ensures.turned

pub returns-clause-groups : goal.returns-clause-groups
returns-clause-groups g c =
    (turn_alike c.self.inside.world (steps.CatchUp c.args.group) (as_reply replies.CaughtUp c.catch_up.result) c.catch_up.new.self c.catch_up.ensures.turned).0 ∙ ap (λ (world : WorldBooks). map listed world.books) c.self.view_is
