-- No group is there, so no sink.
use Rattle.std.proofs.Common.{None, refl, ap, ◌∙◌}
use Rattle.std.specs.Prelude.{option_map, option_and_then, slice_get}
use Rattle.std.proofs.KnownBytes.{Appends-nil}
use Rattle.rl_world.specs.WorldState.{BookState, WorldBooks, sink_at}
use Rattle.rl_session.specs.Printer.{as_list}
use Rattle.rl_session.specs.WorldEngine.{shown_of}
use Rattle.rl_session.proofs.world_engine.WorldEngineEngine.show.Goals as goal

pub returns-in-None : goal.returns-in-None
returns-in-None g c =
    let none = ap (λ book. option_map shown_of (option_and_then (λ (b : BookState). slice_get b.sinks c.args.sink) book)) c.in-None.ensures in
    let same = ap (λ (world : WorldBooks). option_map shown_of (sink_at world.books c.args.group c.args.sink)) c.self.view_is in
    (None, none ∙ same, (refl, Appends-nil (as_list c.args.out.now)))
