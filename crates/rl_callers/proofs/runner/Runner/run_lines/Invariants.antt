-- The caller's commands so far.
use Rattle.std.specs.Option.{option_copied}
use Rattle.rl_session.specs.Session.{lines_left}
use Rattle.rl_callers.proofs.OwnLines.{IsTextLeft, RepliedSoFar, left_len}
use Rattle.rl_callers.proofs.runner.Runner.run_lines.Given as goal

abbrev pub decreases-loop-rest : goal.decreases-loop-rest
decreases-loop-rest g l = left_len l.rest

abbrev pub invariant-loop-rest : goal.invariant-loop-rest
invariant-loop-rest g l = record {
  text : IsTextLeft l.rest;
  so_far : RepliedSoFar g.E.Engine.calls l.callers l.number l.fn.self (lines_left (option_copied l.fn.block)) (lines_left (option_copied l.rest)) l.self;
}
