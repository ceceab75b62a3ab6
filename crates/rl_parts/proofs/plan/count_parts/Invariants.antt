-- The entries of the parts so far are counted.
use Rattle.std.proofs.Common.{◌≡◌, length, take}
use Rattle.rl_parts.specs.Rewriting.{entries_in}
use Rattle.rl_parts.proofs.plan.count_parts.Given as goal

abbrev pub invariant-loop-part : goal.invariant-loop-part
invariant-loop-part l = l.count ≡ length (entries_in (take l.part-index l.parts))
