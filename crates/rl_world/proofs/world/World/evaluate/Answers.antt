-- What was opened is committed, or abandoned.
use Rattle.std.proofs.Common.{Ok, refl, sym, ap, is_some, ◌∙◌}
use Rattle.rl_world.specs.Evaluations.{open_moment}
use Rattle.rl_world.proofs.Moments.{abandoned, begun_named, begun_open, same_moments}
use Rattle.rl_world.proofs.world.World.evaluate.Goals as goal

pub finish-requires : goal.finish-requires
finish-requires g c = ap is_some (begun_open c.args.self.now c.args.group c.args.t c.begin.new.self c.in_ok-begin.ensures.turned)

pub returns-in-Ok-clause-evaluated : goal.returns-in-Ok-clause-evaluated
returns-in-Ok-clause-evaluated g c = record {
  begun = Ok tt;
  mid = c.begin.new.self;
  begins = c.in_ok-begin.ensures.turned;
  following = (c.finish.new.self, c.in-Ok.ensures.made, refl);
  of_group = sym (begun_named c.args.self.now c.args.group c.args.t c.begin.new.self c.in_ok-begin.ensures.turned) ∙ c.in-Ok.ensures.of_group;
}

pub returns-in-Err-clause-evaluated : goal.returns-in-Err-clause-evaluated
returns-in-Err-clause-evaluated g c = record {
  begun = Ok tt;
  mid = c.begin.new.self;
  begins = c.in_ok-begin.ensures.turned;
  following = (c.finish.new.self, c.in-Err.ensures.made, abandoned c.finish.new.self c.args.group c.abandon-abandoned.result c.abandon-abandoned.new.self c.in-Err.ensures.still_open c.abandon-abandoned.ensures.turned);
  of_group = tt;
}

pub returns-in-Ok-clause-moment : goal.returns-in-Ok-clause-moment
returns-in-Ok-clause-moment g c =
    same_moments c.args.t c.in-Ok.committed.evaluation.t (open_moment c.begin.new.self c.args.group) (begun_open c.args.self.now c.args.group c.args.t c.begin.new.self c.in_ok-begin.ensures.turned) c.in-Ok.ensures.moment
