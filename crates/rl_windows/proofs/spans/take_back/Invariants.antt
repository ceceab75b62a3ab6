-- Of the lines that had come the first that are left are still there.
use Rattle.rl_windows.proofs.Running.{due_at, AreLeft}
use Rattle.rl_windows.specs.laws.Alike.{HaveLines}
use Rattle.rl_windows.proofs.spans.take_back.Given as goal

abbrev pub invariant-loop-stamp : goal.invariant-loop-stamp
invariant-loop-stamp l = AreLeft l.left (due_at l.from l.by_stamp.entries) l.stamp-iterator l.found × HaveLines l.stamp-iterator
