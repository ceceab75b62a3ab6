-- The texts of the results so far.
use Rattle.std.proofs.Common.{take}
use Rattle.std.specs.List.{flat_map}
use Rattle.rl_session.specs.Printer.{Prints}
use Rattle.rl_session.specs.Printed.{evaluated_text}
use Rattle.rl_session.proofs.output.write_ticked.Given as goal

abbrev pub invariant-loop-evaluated : goal.invariant-loop-evaluated
invariant-loop-evaluated g l = Prints l.fn.out (flat_map evaluated_text (take l.evaluated-index l.results)) l.out
