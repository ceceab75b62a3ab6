-- The events so far, and those of the streams that are left.
use Rattle.std.proofs.Common.{◌≡◌, ◌++◌, drop}
use Rattle.std.specs.List.{enumerate_from, flat_map}
use Rattle.rl_rule_tests.specs.Happening.{stream_events}
use Rattle.rl_rule_tests.proofs.events.push_streams.Given as goal

abbrev pub invariant-loop-number : goal.invariant-loop-number
invariant-loop-number l = l.events.items ++ flat_map stream_events (enumerate_from l.number (drop l.number l.streams)) ≡ l.fn.events.items ++ flat_map stream_events (enumerate_from 0 l.streams)
