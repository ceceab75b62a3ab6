use Rattle.std.proofs.Common.{length}
use Rattle.rl_sinks.specs.Pieces.{Writes}
use Rattle.rl_sinks.proofs.writing.write_some.Given as goal

abbrev pub decreases-loop-writer : goal.decreases-loop-writer
decreases-loop-writer g l = length l.rest

-- what stands before the rest is written
abbrev pub invariant-loop-writer : goal.invariant-loop-writer
invariant-loop-writer g l = Writes (g.W.Write.contents l.fn.writer) (g.W.Write.contents l.writer) l.fn.bytes l.rest
