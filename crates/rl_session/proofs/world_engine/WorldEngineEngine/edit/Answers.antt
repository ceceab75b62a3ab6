-- The call is a turn of the world, which keeps its groups, sinks and shards.
use Rattle.std.proofs.Common.{map, sym, ap, ◌∙◌}
use Rattle.rl_world.specs.WorldState.{WorldBooks}
use Rattle.rl_world.specs.WorldStep.{as_reply}
use Rattle.rl_world.specs.declared.step.Reply.TheVariants as replies
use Rattle.rl_world.specs.declared.step.Step.TheVariants as steps
use Rattle.rl_session.specs.WorldEngine.{listed}
use Rattle.rl_session.proofs.Following.{turn_alike}
use Rattle.rl_session.proofs.world_engine.WorldEngineEngine.edit.Goals as goal

pub invariant_of-self : goal.invariant_of-self
invariant_of-self g c = (c.self.invariant.0, c.self.invariant.1 ∙ sym (turn_alike c.self.inside.world (steps.Edit c.args.group c.args.to) (as_reply replies.Edited c.edit.result) c.edit.new.self c.edit.ensures.turned).1)

pub returns-clause-groups : goal.returns-clause-groups
returns-clause-groups g c =
    (turn_alike c.self.inside.world (steps.Edit c.args.group c.args.to) (as_reply replies.Edited c.edit.result) c.edit.new.self c.edit.ensures.turned).0 ∙ ap (λ (world : WorldBooks). map listed world.books) c.self.view_is

pub returns-in_err-edit-clause-groups : goal.returns-in_err-edit-clause-groups
returns-in_err-edit-clause-groups g c =
    (turn_alike c.self.inside.world (steps.Edit c.args.group c.args.to) (as_reply replies.Edited c.edit.result) c.edit.new.self c.edit.ensures.turned).0 ∙ ap (λ (world : WorldBooks). map listed world.books) c.self.view_is
