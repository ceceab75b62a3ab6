-- What was printed of the block so far; and how many of its lines are left.
use Rattle.std.proofs.Common.{length}
use Rattle.std.specs.Option.{option_copied}
use Rattle.rl_session.specs.Session.{lines_left}
use Rattle.rl_callers.proofs.BlockPrinted.{IsBlockSoFar}
use Rattle.rl_callers.proofs.running.print_block.Given as goal

abbrev pub invariant-loop-rest : goal.invariant-loop-rest
invariant-loop-rest g l = IsBlockSoFar g.E.Engine.calls (lines_left (option_copied l.block)) (lines_left (option_copied l.rest)) l.refused l.fn.out l.out l.fn.callers l.callers

abbrev pub decreases-loop-rest : goal.decreases-loop-rest
decreases-loop-rest g l = length (lines_left (option_copied l.rest))
