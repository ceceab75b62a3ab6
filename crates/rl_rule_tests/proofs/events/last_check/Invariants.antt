-- The last moment of the checks so far, and of those that are left.
use Rattle.std.proofs.Common.{◌≡◌, drop}
use Rattle.rl_rule_tests.specs.Happening.{last_after, last_check}
use Rattle.rl_rule_tests.proofs.events.last_check.Given as goal

abbrev pub invariant-loop-check : goal.invariant-loop-check
invariant-loop-check l = last_after l.last (drop l.check-index l.checks) ≡ last_check l.checks
