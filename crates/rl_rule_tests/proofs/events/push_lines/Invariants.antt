-- The events so far, and those of the lines that are left.
use Rattle.std.proofs.Common.{◌≡◌, ◌++◌, drop, map}
use Rattle.std.specs.List.{enumerate_from}
use Rattle.rl_rule_tests.specs.Happening.{line_event, stream_events}
use Rattle.rl_rule_tests.proofs.events.push_lines.Given as goal

abbrev pub invariant-loop-index : goal.invariant-loop-index
invariant-loop-index l = l.events.items ++ map (line_event l.number l.stream.late) (enumerate_from l.index (drop l.index l.line-items)) ≡ l.fn.events.items ++ stream_events (l.number, l.stream)
