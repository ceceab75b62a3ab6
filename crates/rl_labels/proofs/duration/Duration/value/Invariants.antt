-- The sum of the parts so far.
use Rattle.std.proofs.Common.{◌≡◌, ◌≤◌, ◌*◌, ◌^◌, take}
use Rattle.std.specs.List.{sum_by}
use Rattle.rl_labels.specs.Quantities.{part_value}
use Rattle.rl_labels.proofs.duration.Duration.value.Given as goal

abbrev pub invariant-loop-part : goal.invariant-loop-part
invariant-loop-part l = (l.value ≡ sum_by part_value (take l.part-index l.part-items)) × (l.value ≤ l.part-index * 10 ^ 37)
