-- The events so far, and those of the moments that are left.
use Rattle.std.proofs.Common.{◌≡◌, ◌++◌, ◌-◌}
use Rattle.rl_rule_tests.specs.Happening.{moments_from, moments_of}
use Rattle.rl_rule_tests.proofs.events.push_steps.Given as goal

abbrev pub invariant-loop : goal.invariant-loop
invariant-loop l = l.events.items ++ moments_from l.number l.at l.steps.step (l.end - l.counter) ≡ l.fn.events.items ++ moments_of l.number l.steps
