-- What the shard answered.
use Rattle.rl_shard.specs.ShardState.{journalled}
use Rattle.rl_workers.proofs.desk.Desk.apply.Goals as goal

pub returns-clause-answered : goal.returns-clause-answered
returns-clause-answered g c =
    let old = journalled c.args.self.now.shard in
    let new = journalled c.apply.new.self in
    record { limits = old.limits; old = old.state; new = new.state; few = old.limits.entries_in_range.1; answered = c.in_ok-place.ensures.answered }
