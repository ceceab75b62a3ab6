-- The parts of a test that is played.
use Rattle.std.proofs.Common.{subst}
use Rattle.rl_rule_tests.specs.Counting.{counts_of}
use Rattle.rl_rule_tests.specs.Playing.{world_ruler, PlaysAll}
use Rattle.rl_rule_tests.proofs.playing.play.Goals as goal

pub returns : goal.returns
returns c = record {
  start = c.in_ok-engine.engine;
  fresh = c.in_ok-engine.ensures;
  asked = counts_of c.report_spans.new.report;
  asks = c.in_ok-report_spans.ensures;
  events = c.in_ok-events.events.items;
  all = c.in_ok-events.ensures.all;
  in_order = c.in_ok-events.ensures.in_order;
  last = c.play_events.new.engine;
  plays = subst (λ events. PlaysAll world_ruler c.args.groups.now c.args.test.now (record { engine = c.in_ok-engine.engine; counts = counts_of c.report_spans.new.report }) events (record { engine = c.play_events.new.engine; counts = counts_of c.play_events.new.report })) c.deref.ensures.value c.in_ok-play_events.ensures;
}
