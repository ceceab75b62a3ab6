-- The numbers so far.
use Rattle.std.proofs.Common.{take}
use Rattle.std.specs.List.{flat_map}
use Rattle.rl_session.specs.Printer.{Prints}
use Rattle.rl_session.specs.Printed.{number_text}
use Rattle.rl_session.proofs.output.write_numbers.Given as goal

abbrev pub invariant-loop-number : goal.invariant-loop-number
invariant-loop-number g l = Prints l.fn.out (flat_map number_text (take l.number-index l.numbers)) l.out
