-- None of the lines so far is that of the entry.
use Rattle.std.proofs.Common.{take}
use Rattle.std.specs.List.{Contains}
use Rattle.rl_chunks.specs.EntryLines.{line_of}
use Rattle.rl_parts.proofs.searching.has_line.Given as goal

abbrev pub invariant-loop-line : goal.invariant-loop-line
invariant-loop-line l = Contains (take l.line-index l.lines) (line_of l.entry) → ⊥
