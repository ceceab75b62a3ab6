-- The count so far and what still changes are the different timestamps.
use Rattle.std.proofs.Common.{◌≡◌, ◌+◌}
use Rattle.std.specs.List.{filter}
use Rattle.rl_windows.specs.Windows.{is_between, moments}
use Rattle.rl_windows.proofs.Running.{changes, times}
use Rattle.rl_windows.proofs.spans.moments.Given as goal

abbrev pub invariant-loop-stamp : goal.invariant-loop-stamp
invariant-loop-stamp l = l.count + changes l.last (times l.stamp-iterator) ≡ moments (filter (λ line. is_between l.low l.high line.0) l.by_stamp.entries)
