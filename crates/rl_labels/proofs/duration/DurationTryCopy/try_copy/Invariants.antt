-- The copies so far are the parts so far.
use Rattle.std.proofs.Common.{◌≡◌, take}
use Rattle.rl_labels.proofs.duration.DurationTryCopy.try_copy.Given as goal

abbrev pub invariant-loop-part : goal.invariant-loop-part
invariant-loop-part l = l.parts.items ≡ take l.part-index l.part-items
