-- The totals so far are those of the last label sets.
use Rattle.std.proofs.Common.{◌≡◌, ◌≤◌, length, drop, Ok}
use Rattle.rl_segments.specs.RecordReading.{totals_of}
use Rattle.rl_segments.proofs.replies.totals_of.Given as goal

abbrev pub invariant-loop-left : goal.invariant-loop-left
invariant-loop-left l = (l.left ≤ length l.volumes) × (totals_of (drop l.left l.volumes) ≡ Ok l.totals)

abbrev pub decreases-loop-left : goal.decreases-loop-left
decreases-loop-left l = l.left
