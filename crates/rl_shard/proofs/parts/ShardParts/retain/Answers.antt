-- What is expired has left the streams, and the windows.
use Rattle.std.proofs.Common.{◌≡◌, ◌==◌, true, false, Some, None, map, refl, sym, ap, subst, ◌∙◌}
use Rattle.std.specs.Prelude.{if◌then◌else◌}
use Rattle.std.proofs.lemmas.Bool.{ne_eqb}
use Rattle.rl_labels.specs.EntryOrder.{EntrySet}
use Rattle.rl_labels.specs.declared.limits.Limits.{Limits}
use Rattle.rl_deletes.specs.Deletes.{RequestsView}
use Rattle.rl_deletes.specs.Horizons.{advanced, is_below, newly_expired}
use Rattle.rl_slots.specs.Slots.{outline}
use Rattle.rl_slots.specs.laws.Living.{collected-outline, live-outline}
use Rattle.rl_streams.specs.Rewritten.{AreLeftIn}
use Rattle.rl_streams.specs.StreamsState.{Looks, StreamsView}
use Rattle.rl_shard.specs.ShardFault.{IsRemoved}
use Rattle.rl_shard.specs.ShardState.{PartsView}
use Rattle.rl_shard.specs.Turning.{AreTurned}
use Rattle.rl_shard.proofs.Turned.{looked_rewrites, right_retained}
use Rattle.rl_shard.proofs.parts.ShardParts.retain.Goals as goal

pub invariant_of-self-2 : goal.invariant_of-self-2
invariant_of-self-2 g c =
    let old = c.self-2.inside.streams in
    let requests = c.self-2.inside.requests in
    let slots = c.self-2.inside.slots in
    let before = c.args.self.now in
    let horizon = c.advance-raised.result in
    let changes = c.in_ok-lost.lost.items in
    let kept = c.in_ok-rewrite.ensures in
    let same_requests : requests ≡ before.requests = ap (λ (p : PartsView). p.requests) c.self-2.view_is ∙ c.lost_below.ensures.others.0 in
    let same_slots : slots ≡ before.slots = ap (λ (p : PartsView). p.slots) c.self-2.view_is ∙ c.lost_below.ensures.others.2 in
    let same_held : old.held ≡ before.streams.held = ap (λ (p : PartsView). p.streams.held) c.self-2.view_is ∙ c.lost_below.ensures.same.held in
    let same_honest : old.seen.honest ≡ before.streams.seen.honest = ap (λ (p : PartsView). p.streams.seen.honest) c.self-2.view_is ∙ c.lost_below.ensures.same.seen.honest in
    let turned = λ (was : old.seen.honest ≡ true).
    subst (λ (r : RequestsView). AreTurned (newly_expired r horizon) old.held slots changes) (sym same_requests)
    (subst (λ (h : EntrySet). AreTurned (newly_expired before.requests horizon) h slots changes) (sym same_held)
    (subst (λ ss. AreTurned (newly_expired before.requests horizon) before.streams.held ss changes) (sym same_slots) (c.in_ok-lost.ensures.lost (sym same_honest ∙ was)))) in (
      c.rewrite.ensures.numbers,
      right_retained old c.rewrite.new.self requests requests slots c.take_out.new.self changes kept.rewritten.limits kept.rewritten.honest c.take_out.ensures.outline c.self-2.invariant.1 horizon refl kept.right turned
          (λ lost entries listed. c.take_out.ensures.exact lost entries slots refl (c.deref.ensures.value ∙ listed)),
    )

pub returns-clause-live : goal.returns-clause-live
returns-clause-live g c = live-outline c.args.self.now.slots c.take_out.new.self (c.take_out.ensures.outline ∙ ap (λ (p : PartsView). map outline p.slots) c.self-2.view_is ∙ ap (map outline) c.lost_below.ensures.others.2)

pub returns-clause-collected : goal.returns-clause-collected
returns-clause-collected g c = collected-outline c.args.self.now.slots c.take_out.new.self (c.take_out.ensures.outline ∙ ap (λ (p : PartsView). map outline p.slots) c.self-2.view_is ∙ ap (map outline) c.lost_below.ensures.others.2)

pub returns-clause-left : goal.returns-clause-left
returns-clause-left g c =
    let before = c.args.self.now in
    let mid = c.self-2.inside.streams in
    let new = c.rewrite.new.self in
    let keep = before.streams.limits.keep in
    let limits : c.limits.result.now ≡ before.streams.limits = c.limits.ensures ∙ ap (λ (p : PartsView). p.streams.limits) c.self.view_is in
    let keeps : (keep == 0) ≡ false = ap (λ (l : Limits). l.keep == 0) (sym limits) ∙ ne_eqb c.limits.result.now.keep 0 c.if-keep-eq0.false in
    let raised : c.advance-raised.result ≡ advanced keep before.horizon c.args.now =
    c.advance-raised.ensures.moment ∙ (λ i. advanced (limits i).keep (c.self.view_is i).horizon c.args.now) in
    let look : Looks before.streams mid = subst (λ (s : StreamsView). Looks before.streams s) (sym (ap (λ (p : PartsView). p.streams) c.self-2.view_is)) c.lost_below.ensures.same in
    let faults : mid.seen.faults ≡ before.streams.seen.faults = ap (λ (p : PartsView). p.streams.seen.faults) c.self-2.view_is ∙ c.in_ok-lost.ensures.counted in
    let left : AreLeftIn (is_below (advanced keep before.horizon c.args.now)) before.streams.rows new.rows =
    subst (λ rows. AreLeftIn (is_below (advanced keep before.horizon c.args.now)) rows new.rows) look.rows (subst (λ h. AreLeftIn (is_below h) mid.rows new.rows) raised c.in_ok-rewrite.ensures.left) in
    subst (λ b. IsRemoved (if b then None else Some (is_below (advanced keep before.horizon c.args.now))) before.streams new) (sym keeps) (left, looked_rewrites before.streams mid new look faults c.in_ok-rewrite.ensures.rewritten)
