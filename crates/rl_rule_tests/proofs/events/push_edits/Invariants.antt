-- The events so far, and those of what is left.
use Rattle.std.proofs.Common.{◌≡◌, ◌++◌, drop, map}
use Rattle.std.specs.List.{enumerate_from}
use Rattle.rl_rule_tests.specs.Happening.{edit_event}
use Rattle.rl_rule_tests.proofs.events.push_edits.Given as goal

abbrev pub invariant-loop-number : goal.invariant-loop-number
invariant-loop-number l = l.events.items ++ map edit_event (enumerate_from l.number (drop l.number l.edits)) ≡ l.fn.events.items ++ map edit_event (enumerate_from 0 l.edits)
