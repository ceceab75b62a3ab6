-- The shards so far have a part each, and the others are left.
use Rattle.std.proofs.Common.{◌≡◌, ◌++◌, [], length}
use Rattle.std.specs.List.{AllByRecursion}
use Rattle.rl_shard.specs.ShardState.{ShardView}
use Rattle.rl_workers.proofs.opening.open_desks.Given as goal

abbrev pub invariant-loop-shard : goal.invariant-loop-shard
invariant-loop-shard g l = record {
  split : l.yielded ++ l.shard-iterator.rest.items ≡ l.fn.shards.items;
  count : length l.desks.items ≡ length l.yielded;
  empty : AllByRecursion (λ (shard : ShardView). shard.journal ≡ []) l.shard-iterator.rest.items;
  parts : l.left.parts ≡ length l.shard-iterator.rest.items;
  amount : l.left.amount ≡ 0;
}
