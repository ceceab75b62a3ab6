-- The numbers so far are removed.
use Rattle.std.proofs.Common.{take}
use Rattle.rl_streams.specs.Rewritten.{AreRemoved}
use Rattle.rl_streams.proofs.rewriting.remove_all.Given as goal

abbrev pub invariant-loop-number : goal.invariant-loop-number
invariant-loop-number g l = AreRemoved l.fn.chunks (take l.number-index l.numbers) l.chunks
