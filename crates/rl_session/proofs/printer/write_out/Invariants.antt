-- What stands before the rest is written.
use Rattle.rl_sinks.specs.Pieces.{Writes}
use Rattle.rl_session.proofs.printer.write_out.Given as goal

abbrev pub invariant-loop : goal.invariant-loop
invariant-loop g l = Writes (g.W.Write.contents l.fn.writer) (g.W.Write.contents l.writer) l.fn.bytes l.rest
