-- No part has a number that was not given.
use Rattle.std.proofs.Common.{subst}
use Rattle.std.specs.List.{Contains}
use Rattle.rl_parts.specs.laws.UseLaws.{Keeps-put}
use Rattle.rl_streams.specs.StreamRows.{numbers_in}
use Rattle.rl_streams.specs.StreamsState.{StreamsView}
use Rattle.rl_streams.proofs.Numbers.{next_apart}
use Rattle.rl_streams.proofs.Steps.{streams_kept}
use Rattle.rl_streams.proofs.streams.Streams.put_blob.Goals as goal

pub invariant_of-self : goal.invariant_of-self
invariant_of-self g c =
    let s = c.self.inside in
    (record { streams = streams_kept s.streams.entries s.chunks c.self.invariant.0.streams c.put.new.self (Keeps-put c.put.result s.chunks c.put.new.self c.put.ensures.puts); counted = c.self.invariant.0.counted; room = c.self.invariant.0.room }, c.self.invariant.1)

pub returns-clause-apart : goal.returns-clause-apart
returns-clause-apart g c =
    let s = c.self.inside in
    subst (λ (view : StreamsView). Contains (numbers_in s.streams.entries) view.next → ⊥) c.self.view_is (next_apart s.chunks s.streams.entries c.self.invariant.0.streams.kept)
