-- The shards so far answered by their records.
use Rattle.std.proofs.Common.{◌≡◌, map}
use Rattle.rl_shard.specs.ShardState.{ShardView}
use Rattle.rl_audit.specs.Driven.{AreGathered}
use Rattle.rl_audit.proofs.driving.gather_again.Given as goal

abbrev pub invariant-loop-number : goal.invariant-loop-number
invariant-loop-number g l = record {
  gathered : AreGathered (map (λ (shard : ShardView). shard.journal) l.fn.shards) l.number l.evaluation.t l.fn.driven l.driven;
  same : l.shards ≡ l.fn.shards;
}
