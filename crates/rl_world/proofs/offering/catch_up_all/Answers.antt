-- The sinks that were pumped took what they took before.
use Rattle.std.proofs.Common.{map}
use Rattle.rl_world.proofs.Closing.{took_prefix-pumped}
use Rattle.rl_world.proofs.offering.catch_up_all.Goals as goal

pub offer_all-requires-clause-prefixes : goal.offer_all-requires-clause-prefixes
offer_all-requires-clause-prefixes g c =
    let state = g.S.Sink.state in
    took_prefix-pumped c.args.evaluations.now (map state c.args.sinks.now) (map state c.pump_all.new.sinks) c.pump_all.ensures.pumped c.requires.prefixes

pub returns-clause-offered : goal.returns-clause-offered
returns-clause-offered g c = (map g.S.Sink.state c.pump_all.new.sinks, c.pump_all.ensures.pumped, c.pump_all.ensures.answers, c.offer_all.ensures.offered)
