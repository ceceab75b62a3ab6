-- What is left of the front is that of what is left.
use Rattle.std.proofs.Common.{◌≡◌, ◌+◌, drop}
use Rattle.std.specs.List.{prefix_len}
use Rattle.rl_labels.specs.Quantities.{is_byte_of}
use Rattle.rl_labels.proofs.quantity.front_len.Given as goal

abbrev pub invariant-loop-index : goal.invariant-loop-index
invariant-loop-index l = l.index + prefix_len (is_byte_of l.of_number) (drop l.index l.text) ≡ prefix_len (is_byte_of l.of_number) l.text
