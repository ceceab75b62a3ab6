-- No group, sink or shard comes or goes by an evaluation.
use Rattle.std.proofs.Common.{map, sym, ap, subst, ◌∙◌}
use Rattle.rl_world.specs.Evaluations.{IsEvaluated}
use Rattle.rl_world.specs.WorldState.{WorldBooks}
use Rattle.rl_session.specs.WorldEngine.{listed}
use Rattle.rl_session.proofs.Following.{evaluated_alike}
use Rattle.rl_session.proofs.world_engine.WorldEngineEngine.evaluate.Goals as goal

pub invariant_of-self : goal.invariant_of-self
invariant_of-self g c = (c.self.invariant.0, c.self.invariant.1 ∙ sym (evaluated_alike c.self.inside.world c.args.group c.args.t c.evaluate.result c.evaluate.new.self c.evaluate.ensures.evaluated).1)

pub returns-clause-answer : goal.returns-clause-answer
returns-clause-answer g c = subst (λ (world : WorldBooks). IsEvaluated world c.args.group c.args.t c.evaluate.result c.evaluate.new.self) c.self.view_is c.evaluate.ensures.evaluated

pub returns-clause-groups : goal.returns-clause-groups
returns-clause-groups g c =
    (evaluated_alike c.self.inside.world c.args.group c.args.t c.evaluate.result c.evaluate.new.self c.evaluate.ensures.evaluated).0 ∙ ap (λ (world : WorldBooks). map listed world.books) c.self.view_is
