-- A shard is asked, in one turn of the world.
use Rattle.std.proofs.Common.{length, refl, subst}
use Rattle.rl_world.specs.WorldRun.{Turned}
use Rattle.rl_world.specs.WorldState.{WorldBooks}
use Rattle.rl_world.specs.WorldStep.{as_reply}
use Rattle.rl_world.specs.declared.step.Reply.TheVariants as replies
use Rattle.rl_world.specs.declared.step.Step.TheVariants as steps
use Rattle.rl_world.proofs.Running.{turned_asked, each_prefix}
use Rattle.rl_world.proofs.world.World.ask.Goals as goal

pub returns-clause-turned : goal.returns-clause-turned
returns-clause-turned g c =
    let old : WorldBooks = record { shards = c.self.inside.parts.shards.items; books = c.self.inside.parts.books.items } in
    let new : WorldBooks = record { shards = c.shard.new.self.shards.items; books = c.shard.new.self.books.items } in
    let step = steps.Shard c.args.number c.args.step in
    let reply = as_reply (λ answer. replies.Decided answer.0 answer.1) c.shard.result in
    subst (λ world. Turned world step reply new) c.self.view_is (turned_asked old step reply new refl c.shard.ensures.refused c.shard.ensures.step c.shard.ensures.sinks c.shard.ensures.stores)

pub returns-clause-prefixes : goal.returns-clause-prefixes
returns-clause-prefixes g c = each_prefix (length c.shard.new.self.shards.items) c.shard.new.self.books.items c.shard.new.self.books_fit
