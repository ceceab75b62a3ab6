-- The shards so far were asked.
use Rattle.std.proofs.Common.{◌≡◌, Ok}
use Rattle.std.specs.List.{AllByRecursion}
use Rattle.rl_world.specs.Evaluations.{AreAskedFor, name_at, open_moment}
use Rattle.rl_world.specs.WorldState.{TookPrefixes}
use Rattle.rl_world.proofs.world.World.gather_all.Given as goal

abbrev pub invariant-loop-number : goal.invariant-loop-number
invariant-loop-number g l = record {
  made : AreAskedFor l.fn.self l.group 0 l.number (Ok tt) l.self;
  still_open : open_moment l.self l.group ≡ open_moment l.fn.self l.group;
  named : name_at l.self l.group ≡ name_at l.fn.self l.group;
  prefixes : AllByRecursion TookPrefixes l.fn.self.books → AllByRecursion TookPrefixes l.self.books;
}
