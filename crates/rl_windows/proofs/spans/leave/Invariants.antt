-- What is left adds up, has the lines that stay, and those that went are counted.
use Rattle.std.proofs.Common.{◌≡◌, ◌+◌, nat_le, length}
use Rattle.std.specs.FinMap.{entries}
use Rattle.std.specs.List.{filter}
use Rattle.rl_windows.specs.Buckets.{buckets_in}
use Rattle.rl_windows.specs.Windows.{count_of, IsSumOf}
use Rattle.rl_windows.proofs.spans.leave.Given as goal

abbrev pub invariant-loop-stamp : goal.invariant-loop-stamp
invariant-loop-stamp l = record {
  sum : IsSumOf l.moment (buckets_in l.by_stamp.entries) l.found;
  left : filter (λ line. nat_le l.high line.0.timestamp) (entries (buckets_in l.by_stamp.entries)) ≡ filter (λ line. nat_le l.high line.0.timestamp) (entries (buckets_in l.fn.by_stamp.entries));
  count : l.gone + count_of (buckets_in l.by_stamp.entries) ≡ count_of (buckets_in l.fn.by_stamp.entries);
}

abbrev pub decreases-loop-stamp : goal.decreases-loop-stamp
decreases-loop-stamp l = length l.by_stamp.entries
