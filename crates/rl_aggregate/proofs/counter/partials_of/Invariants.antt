-- What was counted in the tallies so far, and the others have room.
use Rattle.std.proofs.Common.{◌≡◌, ◌++◌, map}
use Rattle.std.specs.List.{AllByRecursion}
use Rattle.rl_aggregate.specs.Accumulators.{HasRoom}
use Rattle.rl_aggregate.proofs.counter.partials_of.Given as goal

abbrev pub invariant-loop-accumulator : goal.invariant-loop-accumulator
invariant-loop-accumulator l = record {
  split : l.yielded ++ l.accumulator-iterator.rest.items ≡ l.fn.accumulators.items;
  found : l.partials.items ≡ map (λ accumulator. accumulator.found) l.yielded;
  room : AllByRecursion (λ accumulator. HasRoom 0 accumulator.found) l.accumulator-iterator.rest.items;
}
