-- The pairs so far, and those that are left.
use Rattle.std.proofs.Common.{◌≡◌, ◌++◌, zip, drop}
use Rattle.rl_world.proofs.editing.rules_with_alerts.Given as goal

abbrev pub invariant-loop-index : goal.invariant-loop-index
invariant-loop-index l = l.both.items ++ zip (drop l.index l.rules) (drop l.index l.kept) ≡ zip l.rules l.kept
