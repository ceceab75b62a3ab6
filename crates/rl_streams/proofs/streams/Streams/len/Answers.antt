-- The count is that of the set, where no entry is held twice, and never less.
use Rattle.std.proofs.Common.{◌≡◌, ◌≤◌, true, sym, subst, ◌∙◌, arith}
use Rattle.std.specs.FinMap.{len}
use Rattle.rl_labels.specs.laws.OrderLaws.{entry_cmp_total}
use Rattle.rl_streams.specs.StreamRows.{joined}
use Rattle.rl_streams.specs.StreamsState.{StreamsView, view_of}
use Rattle.rl_streams.specs.laws.HeldLaws.{len-of_distinct, len-of_list}
use Rattle.rl_streams.proofs.streams.Streams.len.Goals as goal

pub returns-clause-right : goal.returns-clause-right
returns-clause-right g c = subst (λ (view : StreamsView). view.seen.honest ≡ true → c.self.inside.count ≡ len view.held) c.self.view_is
    (λ honest. c.self.invariant.0.counted ∙ sym (len-of_distinct entry_cmp_total (joined c.self.inside.streams.entries) (c.self.invariant.0.streams.once honest)))

pub returns-clause-room : goal.returns-clause-room
returns-clause-room g c =
    let s = c.self.inside in
    let within : len (view_of s.limits s.streams.entries s.chunks).held ≤ s.limits.entries = omega (arith, len-of_list entry_cmp_total (joined s.streams.entries), c.self.invariant.0.counted, c.self.invariant.0.room) in
    subst (λ (view : StreamsView). len view.held ≤ view.limits.entries) c.self.view_is within
