-- The entry went to its stream's shard.
use Rattle.std.proofs.Common.{subst, ◌∙◌}
use Rattle.rl_labels.specs.Routing.{shard_of}
use Rattle.rl_records.specs.declared.step.ShardStep.TheVariants as shard_steps
use Rattle.rl_session.specs.WorldEngine.{IsAskedOne}
use Rattle.rl_session.proofs.world_engine.WorldEngineEngine.push.Goals as goal

pub returns-clause-answer : goal.returns-clause-answer
returns-clause-answer g c =
    let number = c.shard_of-number.ensures ∙ (λ i. shard_of (c.get.ensures i).labels (c.shards.ensures.count i)) in
    subst (λ n. IsAskedOne c.args.self.now n (shard_steps.Push c.args.entry) c.ask_one.result c.ask_one.new.self) number c.ask_one.ensures.made
