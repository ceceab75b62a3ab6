-- None of the parts so far has the entry in memory.
use Rattle.std.proofs.Common.{take}
use Rattle.std.specs.List.{Contains, flat_map}
use Rattle.rl_parts.specs.Reading.{in_memory}
use Rattle.rl_parts.proofs.searching.any_here.Given as goal

abbrev pub invariant-loop-part : goal.invariant-loop-part
invariant-loop-part l = Contains (flat_map in_memory (take l.part-index l.parts)) l.entry → ⊥
