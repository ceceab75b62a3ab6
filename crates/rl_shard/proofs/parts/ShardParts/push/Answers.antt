-- The windows took the entry where the streams did, and are as before where they did not.
use Rattle.std.proofs.Common.{◌≤◌, map, Ok, sym, ap, subst, ◌∙◌}
use Rattle.rl_labels.specs.Quantity.{greatest_moment}
use Rattle.rl_labels.specs.declared.entry.Entry.{Entry}
use Rattle.rl_chunks.specs.StoreState.{greatest}
use Rattle.rl_slots.specs.Slots.{outline, with_changes, AllStand}
use Rattle.rl_slots.specs.laws.Living.{collected-outline, live-outline, most-outline}
use Rattle.rl_shard.specs.Deciding.{Lasts}
use Rattle.rl_shard.specs.Live.{IsLetIn}
use Rattle.rl_shard.specs.Pushing.{reply_to_add, IsPushed}
use Rattle.rl_shard.specs.ShardState.{PartsView}
use Rattle.rl_records.specs.declared.step.ShardReply.TheVariants.{Accepted}
use Rattle.rl_shard.proofs.Right.{right_others, right_pushed}
use Rattle.rl_shard.proofs.Settled.{lasts, sought, stays, was_missing}
use Rattle.rl_shard.proofs.parts.ShardParts.push.Goals as goal

pub invariant_of-self : goal.invariant_of-self
invariant_of-self g c = (
  c.self.invariant.0,
  right_others c.self.inside.streams c.self.inside.requests c.self.inside.slots c.let_in.new.slots (most-outline c.self.inside.slots c.let_in.new.slots c.let_in.ensures.outline c.self.inside.streams.limits.entries) c.in_default.ensures.refused c.self.invariant.1,
)

pub returns-in_default-clause-live : goal.returns-in_default-clause-live
returns-in_default-clause-live g c = live-outline c.args.self.now.slots c.let_in.new.slots (c.let_in.ensures.outline ∙ ap (λ (p : PartsView). map outline p.slots) c.self.view_is)

pub returns-in_default-clause-collected : goal.returns-in_default-clause-collected
returns-in_default-clause-collected g c = collected-outline c.args.self.now.slots c.let_in.new.slots (c.let_in.ensures.outline ∙ ap (λ (p : PartsView). map outline p.slots) c.self.view_is)

pub invariant_of-self-in-Ok-added : goal.invariant_of-self-in-Ok-added
invariant_of-self-in-Ok-added g c =
    let old = c.self.inside.streams in
    let new = c.add-added.new.self in
    let result = c.add-added.result in
    let s = stays _ result old c.args.entry new c.add-added.ensures.settled in (
      subst (λ next. next ≤ greatest) (sym s.next) c.self.invariant.0,
      right_pushed old new c.self.inside.requests c.args.entry c.self.inside.slots c.let_in.new.slots c.settle.new.slots c.in-Ok.changes.items (subst (λ (e : Entry). e.timestamp ≤ greatest_moment) c.get.ensures c.let_in.ensures.timely) c.self.invariant.1
          (subst (λ (e : Entry). IsLetIn c.self.inside.requests e c.self.inside.slots c.let_in.new.slots) c.get.ensures c.in-Ok.ensures.let_in) c.in-Ok.ensures.stand c.let_in.ensures.outline
          c.is_taken.result c.settle.ensures.taken (λ not contents. subst (λ cs. AllStand c.let_in.new.slots (with_changes cs contents) → AllStand c.settle.new.slots contents) c.deref.ensures.value (c.settle.ensures.back not contents)) c.settle.ensures.outline
          s.limits s.honest (λ honest taken. was_missing _ result old c.args.entry new c.add-added.ensures.settled c.add-added.ensures.decided honest (sym c.is_taken.ensures ∙ taken)) (λ not. s.held (sym c.is_taken.ensures ∙ not)),
    )

pub returns-in-Ok-added-clause-pushed : goal.returns-in-Ok-added-clause-pushed
returns-in-Ok-added-clause-pushed g c =
    subst (λ (old : PartsView). IsPushed old.streams old.horizon c.args.entry (Ok Accepted) c.add-added.new.self) c.self.view_is
    (subst (λ horizon. IsPushed c.self.inside.streams horizon c.args.entry (Ok Accepted) c.add-added.new.self) c.moment-horizon.ensures
    (sought _ c.add-added.result c.self.inside.streams c.args.entry c.add-added.new.self (Ok Accepted) c.add-added.ensures.settled c.add-added.ensures.exact (sym (ap reply_to_add c.in-Ok-added.is))))

pub returns-in-Ok-added-clause-live : goal.returns-in-Ok-added-clause-live
returns-in-Ok-added-clause-live g c = live-outline c.args.self.now.slots c.settle.new.slots (c.settle.ensures.outline ∙ c.let_in.ensures.outline ∙ ap (λ (p : PartsView). map outline p.slots) c.self.view_is)

pub returns-in-Ok-added-clause-collected : goal.returns-in-Ok-added-clause-collected
returns-in-Ok-added-clause-collected g c = collected-outline c.args.self.now.slots c.settle.new.slots (c.settle.ensures.outline ∙ c.let_in.ensures.outline ∙ ap (λ (p : PartsView). map outline p.slots) c.self.view_is)

pub invariant_of-self-2 : goal.invariant_of-self-2
invariant_of-self-2 g c =
    let old = c.self.inside.streams in
    let new = c.add-added.new.self in
    let result = c.add-added.result in
    let s = stays _ result old c.args.entry new c.add-added.ensures.settled in (
      subst (λ next. next ≤ greatest) (sym s.next) c.self.invariant.0,
      right_pushed old new c.self.inside.requests c.args.entry c.self.inside.slots c.let_in.new.slots c.settle.new.slots c.in-Ok.changes.items (subst (λ (e : Entry). e.timestamp ≤ greatest_moment) c.get.ensures c.let_in.ensures.timely) c.self.invariant.1
          (subst (λ (e : Entry). IsLetIn c.self.inside.requests e c.self.inside.slots c.let_in.new.slots) c.get.ensures c.in-Ok.ensures.let_in) c.in-Ok.ensures.stand c.let_in.ensures.outline
          c.is_taken.result c.settle.ensures.taken (λ not contents. subst (λ cs. AllStand c.let_in.new.slots (with_changes cs contents) → AllStand c.settle.new.slots contents) c.deref.ensures.value (c.settle.ensures.back not contents)) c.settle.ensures.outline
          s.limits s.honest (λ honest taken. was_missing _ result old c.args.entry new c.add-added.ensures.settled c.add-added.ensures.decided honest (sym c.is_taken.ensures ∙ taken)) (λ not. s.held (sym c.is_taken.ensures ∙ not)),
    )

pub returns-clause-lasts : goal.returns-clause-lasts
returns-clause-lasts g c = subst (λ (old : PartsView). Lasts old.streams c.add-added.new.self) c.self.view_is (lasts _ c.add-added.result c.self.inside.streams c.args.entry c.add-added.new.self c.add-added.ensures.settled c.add-added.ensures.counted c.self.invariant.0)

pub returns-clause-pushed : goal.returns-clause-pushed
returns-clause-pushed g c =
    subst (λ (old : PartsView). IsPushed old.streams old.horizon c.args.entry c.refused.result c.add-added.new.self) c.self.view_is
    (subst (λ horizon. IsPushed c.self.inside.streams horizon c.args.entry c.refused.result c.add-added.new.self) c.moment-horizon.ensures
    (sought _ c.add-added.result c.self.inside.streams c.args.entry c.add-added.new.self c.refused.result c.add-added.ensures.settled c.add-added.ensures.exact (c.refused.ensures ∙ sym (ap reply_to_add c.in-Err.is))))

pub returns-clause-live : goal.returns-clause-live
returns-clause-live g c = live-outline c.args.self.now.slots c.settle.new.slots (c.settle.ensures.outline ∙ c.let_in.ensures.outline ∙ ap (λ (p : PartsView). map outline p.slots) c.self.view_is)

pub returns-clause-collected : goal.returns-clause-collected
returns-clause-collected g c = collected-outline c.args.self.now.slots c.settle.new.slots (c.settle.ensures.outline ∙ c.let_in.ensures.outline ∙ ap (λ (p : PartsView). map outline p.slots) c.self.view_is)
