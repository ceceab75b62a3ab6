-- An event more.
use Rattle.std.proofs.Common.{refl, arith}
use Rattle.std.proofs.lemmas.Grind.{common_steps}
use Rattle.rl_rule_tests.proofs.Chains.{goes_next, goes_all}
use Rattle.rl_rule_tests.proofs.playing.play_events.Goals as goal

pub loop-event-preserved : goal.loop-event-preserved
loop-event-preserved g c = goes_next _ _ _ _ _ _ _ _ c.loop-event.invariant (grind (arith, common_steps, c.loop-event-test.true)) c.in_ok-play_event.ensures

pub returns : goal.returns
returns g c = (_, goes_all _ _ _ _ _ c.loop-event.invariant (grind (arith, common_steps, c.loop-event-test.false)), refl)
