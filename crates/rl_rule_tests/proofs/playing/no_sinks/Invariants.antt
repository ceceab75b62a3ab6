-- Each group so far has no sinks.
use Rattle.std.proofs.Common.{◌≡◌, [], length, map, take}
use Rattle.std.specs.List.{AllByRecursion}
use Rattle.rl_world.specs.BookCalls.{IsFresh}
use Rattle.rl_rule_tests.proofs.playing.no_sinks.Given as goal

abbrev pub invariant-loop : goal.invariant-loop
invariant-loop g l = record {
  lists : length l.sinks.items ≡ l.counter;
  fresh : AllByRecursion (λ own. AllByRecursion IsFresh (map g.S.Sink.state own.items)) l.sinks.items;
  none : map (λ own. map g.S.Sink.state own.items) l.sinks.items ≡ map (λ _. []) (take l.counter l.groups);
}
