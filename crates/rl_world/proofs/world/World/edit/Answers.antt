-- A group is edited, in one turn of the world.
use Rattle.std.proofs.Common.{length, refl, subst}
use Rattle.rl_world.specs.WorldRun.{Turned}
use Rattle.rl_world.specs.WorldState.{WorldBooks}
use Rattle.rl_world.specs.WorldStep.{as_reply}
use Rattle.rl_world.specs.declared.step.Reply.TheVariants as replies
use Rattle.rl_world.specs.declared.step.Step.TheVariants as steps
use Rattle.rl_world.proofs.Running.{turned_unasked, each_prefix}
use Rattle.rl_world.proofs.world.World.edit.Goals as goal

pub returns-clause-turned : goal.returns-clause-turned
returns-clause-turned g c =
    let old : WorldBooks = record { shards = c.self.inside.parts.shards.items; books = c.self.inside.parts.books.items } in
    let new : WorldBooks = record { shards = c.edit.new.self.shards.items; books = c.edit.new.self.books.items } in
    let step = steps.Edit c.args.group c.args.to in
    let reply = as_reply replies.Edited c.edit.result in
    subst (λ world. Turned world step reply new) c.self.view_is (turned_unasked old step reply new refl c.edit.ensures.step c.edit.ensures.sinks c.edit.ensures.shards)

pub returns-clause-prefixes : goal.returns-clause-prefixes
returns-clause-prefixes g c = each_prefix (length c.edit.new.self.shards.items) c.edit.new.self.books.items c.edit.new.self.books_fit
