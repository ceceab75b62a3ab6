-- What the events so far make of the test.
use Rattle.std.proofs.Common.{drop, []}
use Rattle.rl_rule_tests.specs.Counting.{counts_of}
use Rattle.rl_rule_tests.specs.Playing.{ruler_of, stage_of, Happens}
use Rattle.rl_rule_tests.proofs.Chains.{Goes}
use Rattle.rl_rule_tests.proofs.playing.play_events.Given as goal

abbrev pub invariant-loop-event : goal.invariant-loop-event
invariant-loop-event g l = Goes (Happens (ruler_of g.E.Engine.calls) l.groups l.test) (record { engine = l.fn.engine; at = 0; given = []; counts = counts_of l.fn.report }) l.events (drop l.event-index l.events) (stage_of l.engine l.moment (counts_of l.report))
