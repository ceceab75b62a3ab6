-- What a new request hides has left the windows.
use Rattle.std.proofs.Common.{◌≡◌, true, map, refl, sym, ap, subst, ◌∙◌}
use Rattle.rl_labels.specs.EntryOrder.{EntrySet}
use Rattle.rl_deletes.specs.Deletes.{asked, hidden_alone, is_new_request, RequestsView}
use Rattle.rl_slots.specs.Slots.{outline}
use Rattle.rl_slots.specs.laws.Living.{collected-outline, live-outline}
use Rattle.rl_shard.specs.ShardState.{PartsView}
use Rattle.rl_shard.specs.Turning.{AreTurned}
use Rattle.rl_shard.proofs.Turned.{right_deleted}
use Rattle.rl_shard.proofs.parts.ShardParts.delete.Goals as goal

pub invariant_of-self : goal.invariant_of-self
invariant_of-self g c =
    let old = c.self.inside.streams in
    let requests = c.self.inside.requests in
    let slots = c.self.inside.slots in
    let before = c.args.self.now in
    let id = c.args.deletion.id in
    let request = asked c.args.deletion in
    let changes = c.in_ok-lost.lost.items in
    let same_requests : requests ≡ before.requests = ap (λ (p : PartsView). p.requests) c.self.view_is ∙ c.lost_by.ensures.others.0 in
    let same_slots : slots ≡ before.slots = ap (λ (p : PartsView). p.slots) c.self.view_is ∙ c.lost_by.ensures.others.2 in
    let same_held : old.held ≡ before.streams.held = ap (λ (p : PartsView). p.streams.held) c.self.view_is ∙ c.lost_by.ensures.same.held in
    let same_honest : old.seen.honest ≡ before.streams.seen.honest = ap (λ (p : PartsView). p.streams.seen.honest) c.self.view_is ∙ c.lost_by.ensures.same.seen.honest in
    let turned = λ (was : old.seen.honest ≡ true) (is_new : is_new_request requests id ≡ true).
    subst (λ (r : RequestsView). AreTurned (hidden_alone r id request) old.held slots changes) (sym same_requests)
    (subst (λ (h : EntrySet). AreTurned (hidden_alone before.requests id request) h slots changes) (sym same_held)
    (subst (λ ss. AreTurned (hidden_alone before.requests id request) before.streams.held ss changes) (sym same_slots)
    (c.in_ok-lost.ensures.lost (sym same_honest ∙ was) (ap (λ (r : RequestsView). is_new_request r id) (sym same_requests) ∙ is_new)))) in (
      c.self.invariant.0,
      right_deleted old old requests c.receive.new.self slots c.take_out.new.self changes refl refl c.take_out.ensures.outline c.self.invariant.1 id request refl refl c.in-Ok.ensures.ok.0 c.in-Ok.ensures.ok.1
          (λ known. c.in_ok-lost.ensures.none (ap (λ (r : RequestsView). is_new_request r id) (sym same_requests) ∙ known)) turned
          (λ lost entries listed. c.take_out.ensures.exact lost entries slots refl (c.deref.ensures.value ∙ listed)),
    )

pub returns-in-Ok-clause-live : goal.returns-in-Ok-clause-live
returns-in-Ok-clause-live g c = live-outline c.args.self.now.slots c.take_out.new.self (c.take_out.ensures.outline ∙ ap (λ (p : PartsView). map outline p.slots) c.self.view_is ∙ ap (map outline) c.lost_by.ensures.others.2)

pub returns-in-Ok-clause-collected : goal.returns-in-Ok-clause-collected
returns-in-Ok-clause-collected g c = collected-outline c.args.self.now.slots c.take_out.new.self (c.take_out.ensures.outline ∙ ap (λ (p : PartsView). map outline p.slots) c.self.view_is ∙ ap (map outline) c.lost_by.ensures.others.2)
