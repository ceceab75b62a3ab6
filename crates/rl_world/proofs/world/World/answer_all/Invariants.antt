-- The replies so far are those of a run of the steps so far, and there is room for the others.
use Rattle.std.proofs.Common.{◌≡◌, ◌+◌, ◌≤◌, ◌++◌, length, vec_len, vec_capacity}
use Rattle.std.specs.List.{AllByRecursion}
use Rattle.rl_world.specs.WorldState.{TookPrefixes}
use Rattle.rl_world.proofs.Running.{RunSoFar}
use Rattle.rl_world.proofs.world.World.answer_all.Given as goal

abbrev pub invariant-loop-step : goal.invariant-loop-step
invariant-loop-step g l = record {
  split : l.yielded ++ l.step-iterator.rest.items ≡ l.fn.steps.items;
  capacity : vec_capacity l.fn.out ≤ vec_capacity l.out;
  room : vec_len l.out + length l.step-iterator.rest.items ≤ vec_capacity l.out;
  so_far : RunSoFar l.fn.self l.fn.out.items l.yielded l.self l.out.items;
  prefixes : AllByRecursion TookPrefixes l.fn.self.books → AllByRecursion TookPrefixes l.self.books;
}
