-- The rules before an index are passed over, and all are still there.
use Rattle.std.proofs.Common.{◌≡◌}
use Rattle.rl_rules.proofs.Edited.{IsPassed}
use Rattle.rl_rules.proofs.editing.take_first.Given as goal

abbrev pub invariant-loop-index : goal.invariant-loop-index
invariant-loop-index l = record { all : l.before.items ≡ l.fn.before.items; passed : IsPassed l.rule l.before.items l.index }
