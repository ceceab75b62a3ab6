-- The first lines of the span have come to those that were due.
use Rattle.rl_windows.proofs.Running.{due_at, span, AreEntering}
use Rattle.rl_windows.proofs.spans.enter.Given as goal

abbrev pub invariant-loop-stamp : goal.invariant-loop-stamp
invariant-loop-stamp l = AreEntering l.entered (span l.from l.to l.by_stamp.entries) (due_at l.from l.by_stamp.entries) l.stamp-iterator l.found
