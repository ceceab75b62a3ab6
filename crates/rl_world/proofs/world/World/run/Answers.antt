-- What follows of a run: it is a replay over honest stores, and every store and every sink follows its replies.
use Rattle.std.proofs.Common.{length, subst}
use Rattle.std.specs.List.{AllByRecursion}
use Rattle.rl_world.specs.WorldRun.{gained}
use Rattle.rl_world.specs.WorldState.{WorldBooks, TookPrefixes}
use Rattle.rl_world.specs.laws.ReadLaws.{ran_reading}
use Rattle.rl_world.specs.laws.RunLaws.{ran_replays, ran_follow}
use Rattle.rl_world.specs.laws.StoreLaws.{ran_stores}
use Rattle.rl_world.proofs.Running.{each_prefix}
use Rattle.rl_world.proofs.world.World.run.Goals as goal

pub returns-clause-replays : goal.returns-clause-replays
returns-clause-replays g c = λ honest. ran_replays c.args.self.now c.args.steps.items (gained c.args.out.now.items c.answer_all.new.out.items) c.answer_all.new.self honest c.in_ok-answer_all.ensures.turns

pub returns-clause-reads : goal.returns-clause-reads
returns-clause-reads g c = ran_reading c.args.self.now c.args.steps.items (gained c.args.out.now.items c.answer_all.new.out.items) c.answer_all.new.self c.in_ok-answer_all.ensures.turns

pub returns-clause-stores : goal.returns-clause-stores
returns-clause-stores g c = ran_stores c.args.self.now c.args.steps.items (gained c.args.out.now.items c.answer_all.new.out.items) c.answer_all.new.self c.in_ok-answer_all.ensures.turns

pub returns-clause-follows : goal.returns-clause-follows
returns-clause-follows g c = ran_follow c.args.self.now c.args.steps.items (gained c.args.out.now.items c.answer_all.new.out.items) c.answer_all.new.self c.in_ok-answer_all.ensures.turns

pub returns-clause-prefixes : goal.returns-clause-prefixes
returns-clause-prefixes g c =
    c.in_ok-answer_all.ensures.prefixes (subst (λ (world : WorldBooks). AllByRecursion TookPrefixes world.books) c.self.view_is (each_prefix (length c.self.inside.parts.shards.items) c.self.inside.parts.books.items c.self.inside.parts.books_fit))

pub returns-in_err-answer_all-clause-prefixes : goal.returns-in_err-answer_all-clause-prefixes
returns-in_err-answer_all-clause-prefixes g c =
    c.answer_all.ensures.prefixes (subst (λ (world : WorldBooks). AllByRecursion TookPrefixes world.books) c.self.view_is (each_prefix (length c.self.inside.parts.shards.items) c.self.inside.parts.books.items c.self.inside.parts.books_fit))
