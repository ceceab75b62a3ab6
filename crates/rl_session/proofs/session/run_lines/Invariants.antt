-- What was printed of the lines so far.
use Rattle.std.proofs.Common.{length}
use denote.Text.{Utf8}
use denote.Shadow.{shadow}
use Rattle.rl_session.proofs.LinesSoFar.{ExecutedSoFar}
use Rattle.rl_session.proofs.session.run_lines.Given as goal

abbrev pub decreases-loop-reader : goal.decreases-loop-reader
decreases-loop-reader g l = length l.rest

abbrev pub invariant-loop-reader : goal.invariant-loop-reader
invariant-loop-reader g l = record {
  text : shadow (Utf8 l.rest);
  so_far : ExecutedSoFar g.E.Engine.calls l.fn.engine l.commands l.rest l.refused l.fn.out l.out l.engine;
}
