-- The set so far is that of the last labels.
use Rattle.std.proofs.Common.{◌≡◌, ◌≤◌, length, drop, Ok}
use Rattle.rl_segments.specs.LabelReading.{set_of}
use Rattle.rl_segments.proofs.label_text.set_of.Given as goal

abbrev pub invariant-loop-left : goal.invariant-loop-left
invariant-loop-left l = (l.left ≤ length l.pairs) × (set_of (drop l.left l.pairs) ≡ Ok l.set)

abbrev pub decreases-loop-left : goal.decreases-loop-left
decreases-loop-left l = l.left
