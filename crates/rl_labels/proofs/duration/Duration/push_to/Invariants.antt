-- The parts so far stand at the end.
use Rattle.std.proofs.Common.{◌≡◌, ◌++◌, take, string_bytes}
use Rattle.std.specs.List.{flat_map}
use Rattle.rl_labels.specs.QuantityTexts.{part_text}
use Rattle.rl_labels.proofs.duration.Duration.push_to.Given as goal

abbrev pub invariant-loop-part : goal.invariant-loop-part
invariant-loop-part l = string_bytes l.text ≡ string_bytes l.fn.text ++ flat_map part_text (take l.part-index l.part-items)
