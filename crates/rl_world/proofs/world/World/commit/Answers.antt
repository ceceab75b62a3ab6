-- An evaluation is committed, in one turn of the world.
use Rattle.std.proofs.Common.{length, refl, subst}
use Rattle.rl_world.specs.WorldRun.{Turned}
use Rattle.rl_world.specs.WorldState.{WorldBooks}
use Rattle.rl_world.specs.WorldStep.{as_reply}
use Rattle.rl_world.specs.declared.step.Reply.TheVariants as replies
use Rattle.rl_world.specs.declared.step.Step.TheVariants as steps
use Rattle.rl_world.proofs.Running.{turned_unasked, each_prefix}
use Rattle.rl_world.proofs.world.World.commit.Goals as goal

pub returns-clause-turned : goal.returns-clause-turned
returns-clause-turned g c =
    let old : WorldBooks = record { shards = c.self.inside.parts.shards.items; books = c.self.inside.parts.books.items } in
    let new : WorldBooks = record { shards = c.commit.new.self.shards.items; books = c.commit.new.self.books.items } in
    let step = steps.Commit c.args.group in
    let reply = as_reply replies.Committed c.commit.result in
    subst (λ world. Turned world step reply new) c.self.view_is (turned_unasked old step reply new refl c.commit.ensures.step c.commit.ensures.sinks c.commit.ensures.shards)

pub returns-clause-prefixes : goal.returns-clause-prefixes
returns-clause-prefixes g c = each_prefix (length c.commit.new.self.shards.items) c.commit.new.self.books.items c.commit.new.self.books_fit
