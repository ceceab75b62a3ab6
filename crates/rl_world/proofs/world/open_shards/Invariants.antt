-- The shards so far, over the stores so far.
use Rattle.std.proofs.Common.{◌≡◌, ◌++◌, map}
use Rattle.rl_shard.specs.ShardState.{opened_over}
use Rattle.rl_world.proofs.world.open_shards.Given as goal

abbrev pub invariant-loop-store : goal.invariant-loop-store
invariant-loop-store g l = record {
  split : l.yielded ++ l.store-iterator.rest.items ≡ l.fn.stores.items;
  shards : l.shards.items ≡ map (λ store. opened_over l.limits (g.D.Store.seen store)) l.yielded;
}
