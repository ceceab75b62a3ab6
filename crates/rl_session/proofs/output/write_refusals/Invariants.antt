-- The lines of the answers so far.
use Rattle.std.proofs.Common.{take}
use Rattle.rl_session.specs.Printer.{Prints}
use Rattle.rl_session.specs.Printed.{entry_lines}
use Rattle.rl_session.proofs.output.write_refusals.Given as goal

abbrev pub invariant-loop-number : goal.invariant-loop-number
invariant-loop-number g l = Prints l.fn.out (entry_lines 0 (take l.number l.answers)) l.out
