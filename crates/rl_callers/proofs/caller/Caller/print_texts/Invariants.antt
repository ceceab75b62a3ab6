-- Some texts so far.
use Rattle.std.proofs.Common.{ℕ, List}
use Rattle.std.specs.List.{concat}
use Rattle.rl_session.specs.Printer.{Prints}
use Rattle.rl_callers.proofs.caller.Caller.print_texts.Given as goal

abbrev pub invariant-loop-index : goal.invariant-loop-index
invariant-loop-index g l = (kept : List (List ℕ)) × Prints l.fn.out (concat kept) l.out
