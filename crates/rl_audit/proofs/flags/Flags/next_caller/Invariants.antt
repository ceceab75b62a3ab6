-- The flags stay as they were.
use Rattle.std.proofs.Common.{◌≡◌}
use Rattle.rl_audit.proofs.flags.Flags.next_caller.Given as goal

abbrev pub invariant-loop-column : goal.invariant-loop-column
invariant-loop-column l = l.self.flags.items ≡ l.fn.self.flags.items
