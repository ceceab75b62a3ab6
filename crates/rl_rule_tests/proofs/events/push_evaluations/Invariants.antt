-- The events so far, and those of the groups that are left.
use Rattle.std.proofs.Common.{◌≡◌, ◌++◌, drop}
use Rattle.std.specs.List.{enumerate_from, flat_map}
use Rattle.rl_rule_tests.specs.Happening.{evaluations_of}
use Rattle.rl_rule_tests.proofs.events.push_evaluations.Given as goal

abbrev pub invariant-loop-number : goal.invariant-loop-number
invariant-loop-number l = l.events.items ++ flat_map (evaluations_of l.spans l.checks) (enumerate_from l.number (drop l.number l.groups)) ≡ l.fn.events.items ++ flat_map (evaluations_of l.spans l.checks) (enumerate_from 0 l.groups)
