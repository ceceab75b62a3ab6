-- The streams keep their labels.
use Rattle.std.proofs.Common.{length, sym, ap, subst, ◌∙◌}
use Rattle.rl_streams.specs.StreamsState.{Flushes, StreamsView, view_of}
use Rattle.rl_streams.proofs.Selecting.{selections_newest}
use Rattle.rl_streams.proofs.Whole.{flush_view}
use Rattle.rl_streams.proofs.streams.Streams.flush.Goals as goal

pub returns-clause-same : goal.returns-clause-same
returns-clause-same g c =
    let s = c.self.inside in
    subst (λ (old : StreamsView). Flushes old (view_of s.limits c.flush-flushed.new.streams.entries c.flush-flushed.new.chunks)) c.self.view_is
    (flush_view s.limits s.streams.entries c.flush-flushed.new.streams.entries s.chunks c.flush-flushed.new.chunks c.flush-flushed.ensures.flushed)

pub invariant_of-self : goal.invariant_of-self
invariant_of-self g c =
    let s = c.self.inside in
    let flushed = c.flush-flushed.ensures.flushed in (
      record { streams = flushed.streams c.self.invariant.0.streams; counted = c.self.invariant.0.counted ∙ ap length (sym flushed.entries); room = c.self.invariant.0.room },
      selections_newest s.streams.entries c.flush-flushed.new.streams.entries s.selections flushed.newest c.self.invariant.1,
    )
