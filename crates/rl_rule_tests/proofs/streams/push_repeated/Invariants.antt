-- The lines so far, and those of the moments that are left.
use Rattle.std.proofs.Common.{◌≡◌, ◌++◌, ◌-◌}
use Rattle.rl_rule_tests.specs.Document.{repeated_from, repeated_lines}
use Rattle.rl_rule_tests.proofs.streams.push_repeated.Given as goal

abbrev pub invariant-loop-index : goal.invariant-loop-index
invariant-loop-index l = l.lines.items ++ repeated_from l.repeat l.index (l.repeat.steps.count - l.index) ≡ l.fn.lines.items ++ repeated_lines l.repeat
