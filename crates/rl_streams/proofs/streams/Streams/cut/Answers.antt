-- What is held stays.
use Rattle.std.proofs.Common.{subst}
use Rattle.rl_streams.specs.StreamRows.{loose_in}
use Rattle.rl_streams.specs.StreamsState.{Cuts, view_of}
use Rattle.rl_streams.proofs.Selecting.{selections_newest}
use Rattle.rl_streams.proofs.Whole.{cut_whole, cut_view, on_ok_none}
use Rattle.rl_streams.proofs.streams.Streams.cut.Goals as goal

pub invariant_of-self : goal.invariant_of-self
invariant_of-self g c = (
  cut_whole c.self.inside.limits c.self.inside.chunks c.self.inside.count c.self.inside.streams.entries c.cut.new.streams.entries c.cut.ensures.cut c.self.invariant.0,
  selections_newest c.self.inside.streams.entries c.cut.new.streams.entries c.self.inside.selections c.cut.ensures.cut.newest c.self.invariant.1,
)

pub returns-clause-same : goal.returns-clause-same
returns-clause-same g c = subst (λ old. Cuts old (view_of c.self.inside.limits c.cut.new.streams.entries c.self.inside.chunks)) c.self.view_is
    (cut_view c.self.inside.limits c.self.inside.chunks c.self.inside.count c.self.inside.streams.entries c.cut.new.streams.entries c.cut.ensures.cut)

pub returns-clause-all : goal.returns-clause-all
returns-clause-all g c = on_ok_none (loose_in c.cut.new.streams.entries) c.cut.result c.cut.ensures.all
