-- The step is a turn of the world.
use Rattle.std.proofs.Common.{sym, ◌∙◌}
use Rattle.rl_world.specs.WorldStep.{as_reply}
use Rattle.rl_world.specs.declared.step.Reply.TheVariants as replies
use Rattle.rl_world.specs.declared.step.Step.TheVariants as steps
use Rattle.rl_session.proofs.Following.{turn_alike}
use Rattle.rl_session.proofs.world_engine.WorldEngine.ask_one.Goals as goal

pub invariant_of-self : goal.invariant_of-self
invariant_of-self g c = (c.self.invariant.0, c.self.invariant.1 ∙ sym (turn_alike c.self.inside.world (steps.Shard c.args.number c.args.step) (as_reply (λ answer. replies.Decided answer.0 answer.1) c.ask.result) c.ask.new.self c.ask.ensures.turned).1)
