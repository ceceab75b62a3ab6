-- What was printed of the lines and blocks so far; and how many lines are left.
use Rattle.std.proofs.Common.{◌<◌, length, map}
use Rattle.std.specs.Option.{option_copied}
use Rattle.rl_session.specs.Front.{lines_of}
use Rattle.rl_session.specs.Session.{lines_left}
use Rattle.rl_callers.proofs.BlocksSoFar.{ExecutedSoFar}
use Rattle.rl_callers.proofs.running.run_callers.Given as goal

abbrev pub invariant-loop-rest : goal.invariant-loop-rest
invariant-loop-rest g l = record {
  some : 0 < length l.callers;
  so_far : ExecutedSoFar g.E.Engine.calls (map (λ caller. caller.engine) l.fn.callers) (lines_of l.commands) (lines_left (option_copied l.rest)) l.refused l.fn.out l.out (map (λ caller. caller.engine) l.callers);
}

abbrev pub decreases-loop-rest : goal.decreases-loop-rest
decreases-loop-rest g l = length (lines_left (option_copied l.rest))
