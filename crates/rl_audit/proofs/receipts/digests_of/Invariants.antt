-- The journals so far, and the shards as they were.
use Rattle.std.proofs.Common.{◌≡◌, ◌≤◌, length, map, take, vec_capacity, vec_len}
use Rattle.rl_records.specs.RecordBytes.{digest_of}
use Rattle.rl_audit.proofs.receipts.digests_of.Given as goal

abbrev pub invariant-loop-number : goal.invariant-loop-number
invariant-loop-number g l = record {
  digests : l.digests.items ≡ map (map digest_of) (map (λ shard. shard.journal) (take l.number l.fn.shards));
  same : l.shards ≡ l.fn.shards;
  count : vec_len l.digests ≡ l.number;
  room : length l.fn.shards ≤ vec_capacity l.digests;
}
