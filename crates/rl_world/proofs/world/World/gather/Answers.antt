-- A shard is asked for an evaluation, in one turn of the world.
use Rattle.std.proofs.Common.{length, refl, subst}
use Rattle.rl_world.specs.WorldRun.{Turned}
use Rattle.rl_world.specs.WorldState.{WorldBooks}
use Rattle.rl_world.specs.WorldStep.{as_reply}
use Rattle.rl_world.specs.declared.step.Reply.TheVariants as replies
use Rattle.rl_world.specs.declared.step.Step.TheVariants as steps
use Rattle.rl_world.proofs.Running.{turned_asked, each_prefix}
use Rattle.rl_world.proofs.world.World.gather.Goals as goal

pub returns-clause-turned : goal.returns-clause-turned
returns-clause-turned g c =
    let old : WorldBooks = record { shards = c.self.inside.parts.shards.items; books = c.self.inside.parts.books.items } in
    let new : WorldBooks = record { shards = c.gather.new.self.shards.items; books = c.gather.new.self.books.items } in
    let step = steps.Gather c.args.group c.args.number in
    let reply = as_reply replies.Gathered c.gather.result in
    subst (λ world. Turned world step reply new) c.self.view_is (turned_asked old step reply new refl c.gather.ensures.refused c.gather.ensures.step c.gather.ensures.sinks c.gather.ensures.stores)

pub returns-clause-prefixes : goal.returns-clause-prefixes
returns-clause-prefixes g c = each_prefix (length c.gather.new.self.shards.items) c.gather.new.self.books.items c.gather.new.self.books_fit
