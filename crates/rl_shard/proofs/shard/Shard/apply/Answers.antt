-- What was decided was done, and shows what the step of the definition shows; the journal has its record.
use Rattle.std.proofs.Common.{◌+◌, ◌<◌, ◌≤◌, ◌∷◌, ◌++◌, [], length, sym, ap, subst, ◌∙◌, arith, leb-false}
use Rattle.rl_records.specs.declared.record.Record.{Record}
use Rattle.rl_shard.specs.Journal.{last_digest}
use Rattle.rl_shard.specs.Live.{visits_due, IsOfWindows}
use Rattle.rl_shard.specs.ShardFault.{IsDone, IsHonest}
use Rattle.rl_shard.specs.ShardState.{ShardState, ShardView, journalled, parts_of, state_of, visible}
use Rattle.rl_shard.specs.ShardStep.{is_journal_full}
use Rattle.rl_shard.specs.Showing.{Shows}
use Rattle.rl_shard.specs.laws.Shown.{shows-stepped}
use Rattle.rl_shard.proofs.Journals.{grown_shard, last-append}
use Rattle.rl_shard.proofs.shard.Shard.apply.Goals as goal

pub invariant_of-self-2 : goal.invariant_of-self-2
invariant_of-self-2 g c =
    let old = c.self.inside.parts in
    let journal = c.self.inside.journal.items in
    let one : Record = record { step = c.args.step; reply = c.in_ok-decision.decision.reply } in
    let made = c.in_ok-decision.ensures.decides in
    let more = c.push_reserved.ensures.items ∙ (λ i. c.reserve.ensures.items i ++ (c.new.ensures ∙ c.in_ok-decision.ensures.kept) i ∷ []) in
    let free = c.is_journal_full.ensures ∙ ap (λ (s : ShardView). is_journal_full (journalled s)) (sym c.self.view_is) in
    let room : length journal < old.streams.limits.records = omega (arith, leb-false old.streams.limits.records (length journal) (sym free ∙ c.if-is_journal_full.false)) in
    grown_shard old c.decide.new.self journal c.push_reserved.new.self.items one more made.lasts.limits made.lasts.stored.honest room made.decided made.changed c.self.invariant

pub returns-clause-digest : goal.returns-clause-digest
returns-clause-digest g c =
    let one : Record = record { step = c.args.step; reply = c.in_ok-decision.decision.reply } in
    ap last_digest (c.push_reserved.ensures.items ∙ (λ i. c.reserve.ensures.items i ++ (c.new.ensures ∙ c.in_ok-decision.ensures.kept) i ∷ [])) ∙ last-append c.self.inside.journal.items one

pub returns-clause-done : goal.returns-clause-done
returns-clause-done g c = subst (λ (old : ShardView). IsDone old.streams.limits (state_of (parts_of old)) c.args.step old.streams c.decide.new.self.streams) c.self.view_is c.in_ok-decision.ensures.decides.done

pub returns-clause-shown : goal.returns-clause-shown
returns-clause-shown g c = subst (λ (old : ShardView). IsHonest old → Shows old.streams.limits (state_of (parts_of old)) c.args.step (visible (state_of c.decide.new.self))) c.self.view_is
    (λ honest. subst (λ (state : ShardState). Shows c.self.inside.parts.streams.limits (state_of c.self.inside.parts) c.args.step (visible state)) (sym (c.in_ok-decision.ensures.decides.changed honest)) (shows-stepped c.self.inside.parts.streams.limits (state_of c.self.inside.parts) c.args.step))

pub returns-clause-visits : goal.returns-clause-visits
returns-clause-visits g c = subst (λ (old : ShardView). IsHonest old → IsOfWindows c.args.step old.slots → c.decide.new.self.meter.visits ≤ old.meter.visits + visits_due (visible (state_of (parts_of old))) c.args.step old.slots) c.self.view_is
    c.in_ok-decision.ensures.decides.visits
