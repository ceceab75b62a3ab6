-- The lines so far, and those of the moment that are left.
use Rattle.std.proofs.Common.{◌≡◌, ◌++◌, ◌-◌}
use Rattle.rl_rule_tests.specs.Document.{lines_at, lines_from}
use Rattle.rl_rule_tests.proofs.streams.push_moment.Given as goal

abbrev pub invariant-loop-number : goal.invariant-loop-number
invariant-loop-number l = l.lines.items ++ lines_from l.fn.repeat l.index l.number (l.times - l.number) ≡ l.fn.lines.items ++ lines_at l.fn.repeat l.index
