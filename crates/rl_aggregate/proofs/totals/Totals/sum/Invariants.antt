-- The sums so far and the entries that are left add up to all, as far as 64 bits hold it.
use Rattle.std.proofs.Common.{◌≡◌, ◌+◌, ◌-◌, ◌<◌, ◌^◌, min}
use Rattle.std.specs.List.{sum_by}
use Rattle.rl_aggregate.specs.Limited.{sum_of}
use Rattle.rl_aggregate.proofs.totals.Totals.sum.Given as goal

abbrev pub invariant-loop-total : goal.invariant-loop-total
invariant-loop-total l = record {
  count : min (l.count + sum_by (λ entry. entry.1.count) l.total-iterator) (2 ^ 64 - 1) ≡ min (sum_of (λ total. total.count) l.self) (2 ^ 64 - 1);
  bytes : min (l.bytes + sum_by (λ entry. entry.1.bytes) l.total-iterator) (2 ^ 64 - 1) ≡ min (sum_of (λ total. total.bytes) l.self) (2 ^ 64 - 1);
  fits : (l.count < 2 ^ 64) × (l.bytes < 2 ^ 64);
}
