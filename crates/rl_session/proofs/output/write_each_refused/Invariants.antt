-- The lines so far.
use Rattle.rl_session.specs.Printer.{Prints}
use Rattle.rl_session.specs.Printed.{entry_lines, none_pushed}
use Rattle.rl_session.proofs.output.write_each_refused.Given as goal

abbrev pub invariant-loop-number : goal.invariant-loop-number
invariant-loop-number g l = Prints l.fn.out (entry_lines 0 (none_pushed l.number)) l.out
