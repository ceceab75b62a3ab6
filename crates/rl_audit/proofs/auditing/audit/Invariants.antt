-- The books so far are audited.
use Rattle.std.proofs.Common.{◌≡◌, map, take}
use Rattle.std.specs.List.{AllByRecursion}
use Rattle.rl_shard.specs.ShardState.{ShardView}
use Rattle.rl_audit.specs.Founded.{IsAudited}
use Rattle.rl_audit.proofs.auditing.audit.Given as goal

abbrev pub invariant-loop-book : goal.invariant-loop-book
invariant-loop-book g l = record {
  audited : AllByRecursion (IsAudited (map (λ (shard : ShardView). shard.journal) l.fn.shards)) (take l.book-index l.books);
  same : l.shards ≡ l.fn.shards;
}
