-- A store for each shard so far.
use Rattle.std.proofs.Common.{◌≡◌, length}
use Rattle.worked_cases.proofs.world.stores_of.Given as goal

abbrev pub invariant-loop-number : goal.invariant-loop-number
invariant-loop-number l = length l.stores.items ≡ l.number
