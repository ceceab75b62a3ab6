-- The texts so far.
use Rattle.std.proofs.Common.{take}
use Rattle.std.specs.Prelude.{IfSome, slice_get}
use Rattle.std.specs.List.{concat}
use Rattle.rl_session.specs.Printer.{Prints}
use Rattle.rl_session.proofs.world_engine.print_texts.Given as goal

abbrev pub invariant-loop-index : goal.invariant-loop-index
invariant-loop-index g l = IfSome (slice_get l.book.sinks l.sink) (λ sink. Prints l.fn.out (concat (take l.index sink.kept)) l.out)
