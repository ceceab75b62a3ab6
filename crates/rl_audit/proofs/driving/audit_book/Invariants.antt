-- The items so far were driven anew.
use Rattle.std.proofs.Common.{◌≡◌, ◌-◌, length, map}
use Rattle.rl_shard.specs.ShardState.{ShardView}
use Rattle.rl_audit.proofs.Redriving.{AreDriven}
use Rattle.rl_audit.proofs.driving.audit_book.Given as goal

abbrev pub invariant-loop-item : goal.invariant-loop-item
invariant-loop-item g l = record {
  driven : AreDriven (map (λ (shard : ShardView). shard.journal) l.fn.shards) l.book l.index l.driven;
  same : l.shards ≡ l.fn.shards;
}

abbrev pub decreases-loop-item : goal.decreases-loop-item
decreases-loop-item g l = length l.book.history.items - l.index
