-- A store for each shard so far.
use Rattle.std.proofs.Common.{◌≡◌, length}
use Rattle.rule_shell.proofs.memory_stores.Given as goal

abbrev pub invariant-loop : goal.invariant-loop
invariant-loop l = length l.stores.items ≡ l.counter
