-- Each shard was asked, and the evaluation is committed or still open.
use Rattle.rl_world.proofs.Moments.{finished_moment, finished_named, finished_open}
use Rattle.rl_world.proofs.world.World.finish.Goals as goal

pub returns-clause-moment : goal.returns-clause-moment
returns-clause-moment g c = finished_moment c.args.self.now c.gather_all.new.self c.args.group c.commit.result c.commit.new.self c.in_ok-gather_all.ensures.still_open c.commit.ensures.turned

pub returns-clause-of_group : goal.returns-clause-of_group
returns-clause-of_group g c = finished_named c.args.self.now c.gather_all.new.self c.args.group c.commit.result c.commit.new.self c.in_ok-gather_all.ensures.named c.commit.ensures.turned

pub returns-clause-still_open : goal.returns-clause-still_open
returns-clause-still_open g c = finished_open c.args.self.now c.gather_all.new.self c.args.group c.commit.result c.commit.new.self c.requires c.in_ok-gather_all.ensures.still_open c.commit.ensures.turned
