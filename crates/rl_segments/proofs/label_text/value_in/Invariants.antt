-- The value is what was read so far, and what is read of the rest.
use Rattle.std.proofs.Common.{◌≡◌, length}
use Rattle.rl_segments.specs.LabelReading.{value_in}
use Rattle.rl_segments.proofs.Labels.{behind}
use Rattle.rl_segments.proofs.label_text.value_in.Given as goal

abbrev pub invariant-loop-byte : goal.invariant-loop-byte
invariant-loop-byte l = behind l.value.items (value_in l.rest) ≡ value_in l.bytes

abbrev pub decreases-loop-byte : goal.decreases-loop-byte
decreases-loop-byte l = length l.rest
