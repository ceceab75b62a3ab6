-- What is left of the limits, and the entries that are left, add up to the limits and all entries.
use Rattle.std.proofs.Common.{◌≡◌, ◌+◌, ◌*◌}
use Rattle.std.specs.List.{sum_by}
use Rattle.rl_aggregate.specs.Limited.{sum_of}
use Rattle.rl_labels.specs.EntryParts.{longest_line}
use Rattle.rl_world.specs.ShardAnswers.{most_in_shard}
use Rattle.rl_audit.proofs.asked.is_within.Given as goal

abbrev pub invariant-loop-total : goal.invariant-loop-total
invariant-loop-total l = record {
  counts : (l.partial.errors + sum_of (λ total. total.count) l.partial.totals) + l.lines ≡ most_in_shard + sum_by (λ entry. entry.1.count) l.total-iterator;
  bytes : sum_of (λ total. total.bytes) l.partial.totals + l.bytes ≡ most_in_shard * longest_line + sum_by (λ entry. entry.1.bytes) l.total-iterator;
}
