-- A step on kept partials is a step on every world of shown lists that they stand for.
use Rattle.std.proofs.Common.{◌≡◌, inl, inr, ℕ, zero, suc, cond, ◌&&◌, List, [], ◌∷◌, map, length, replicate, Option, None, Some, is_some, unwrap_or, option_map, slice_get, refl, sym, ap, ◌∙◌}
use Rattle.std.specs.List.{list_all}
use Rattle.std.proofs.lemmas.List.{map-set}
use Rattle.std.proofs.lemmas.Option.{slice_get-map}
use Rattle.rl_labels.specs.Name.{is_text}
use Rattle.rl_labels.specs.declared.entry.Entry.{Entry}
use Rattle.rl_query.specs.declared.query.Term.{Term}
use Rattle.rl_aggregate.specs.declared.partial.Partial.{Partial}
use Rattle.rl_shard.specs.ShardState.{visible}
use Rattle.rl_shard.specs.ShardStep.{recorded}
use Rattle.rl_records.specs.declared.step.ShardStep.{ShardStep}
use Rattle.rl_records.specs.declared.step.ShardStep.TheVariants as shard_steps
use Rattle.rl_records.specs.declared.step.ShardReply.{ShardReply}
use Rattle.rl_rules.specs.declared.rule.Group.{Group}
use Rattle.rl_world.specs.Evaluating.{group_terms}
use Rattle.rl_world.specs.Kept.{partials_of}
use Rattle.rl_world.specs.History.{History, alerts_of, begin_fault, gather_fault, commit_fault, abandon_fault, asked_fault, closing_fault, is_session_full, last_moment, not_later, is_gathered, is_complete, begun, edited, gathered, with_shown, committed, abandoned}
use Rattle.rl_world.specs.laws.ShownLaws.{kept_evaluation}
use Rattle.rl_world.specs.WorldState.{WorldState, Stands, kept_answer, kept_open, kept_history, kept_world}
use Rattle.rl_world.specs.WorldStep.{WorldStep, Turn, MayRefuse, ShardTurn, HistoryTurn, EditTurn, GatherTurn, CommitTurn, lists, partials, known, or_else, edit_refusal, journal_refusal, refusal_of, with_shard, with_history}
use Rattle.rl_world.specs.declared.fault.BookFault.TheVariants as faults
use Rattle.rl_world.specs.declared.fault.Refusal.{Refusal}
use Rattle.rl_world.specs.declared.fault.Refusal.TheVariants as refusals
use Rattle.rl_world.specs.declared.opened.Gathered.{Gathered}
use Rattle.rl_world.specs.declared.opened.OpenEvaluation.{OpenEvaluation}
use Rattle.rl_world.specs.declared.step.Committed.{Committed}
use Rattle.rl_world.specs.declared.step.Step.{Step}
use Rattle.rl_world.specs.declared.step.Step.TheVariants as steps
use Rattle.rl_world.specs.declared.step.Reply.{Reply}
use Rattle.rl_world.specs.declared.step.Reply.TheVariants as replies

-- a world of lists
abbrev Lists : Type 0
Lists = WorldState (List Entry)

abbrev Parts : Type 0
Parts = WorldState (List Partial)

is_some-option_map : {A B : Type 0} (f : A → B) (o : Option A) → is_some (option_map f o) ≡ is_some o
is_some-option_map f None = refl
is_some-option_map f (Some x) = refl

some_is : {X : Type 0} (a b : X) → Some a ≡ Some b → a ≡ b
some_is a b h = cc

none_some : {X : Type 0} (x : X) → None ≡ Some x → ⊥
none_some x h = cc

-- what a look-up through a map found
record Found {A B : Type 0} (f : A → B) (o : Option A) (y : B) : Type 0 where
  pub item : A
  pub is : o ≡ Some item
  pub value : f item ≡ y

found_in : {A B : Type 0} (f : A → B) (o : Option A) (y : B) → option_map f o ≡ Some y → Found f o y
found_in f None y h = absurd (none_some y h)
found_in f (Some x) y h = record { item = x; is = refl; value = some_is (f x) y h }

-- the history whose kept form stands at a number
history_in : (histories : List (History (List Entry))) (group : ℕ) (kept : History (List Partial)) → slice_get (map kept_history histories) group ≡ Some kept → Found kept_history (slice_get histories group) kept
history_in histories group kept h = found_in kept_history (slice_get histories group) kept (sym (slice_get-map kept_history histories group) ∙ h)

-- faults do not look at what is kept
is_gathered-kept : (terms : List Term) (opened : OpenEvaluation (List Entry)) (number : ℕ) → is_gathered (kept_open terms opened) number ≡ is_gathered opened number
is_gathered-kept terms opened number = ap (λ o. is_some (unwrap_or o None)) (slice_get-map (option_map (kept_answer terms opened.t)) opened.gathered number) ∙ within (slice_get opened.gathered number)
  where
    within : (o : Option (Option (Gathered (List Entry)))) → is_some (unwrap_or (option_map (option_map (kept_answer terms opened.t)) o) None) ≡ is_some (unwrap_or o None)
    within None = refl
    within (Some shard_answer) = is_some-option_map (kept_answer terms opened.t) shard_answer

is_complete-kept : (terms : List Term) (opened : OpenEvaluation (List Entry)) → is_complete (kept_open terms opened) ≡ is_complete opened
is_complete-kept terms opened = all_kept opened.gathered
  where
    all_kept : (answers : List (Option (Gathered (List Entry)))) → list_all is_some (map (option_map (kept_answer terms opened.t)) answers) ≡ list_all is_some answers
    all_kept [] = refl
    all_kept (shard_answer ∷ answers) = λ i. is_some-option_map (kept_answer terms opened.t) shard_answer i && all_kept answers i

begin-kept : (history : History (List Entry)) (t : ℕ) → begin_fault (kept_history history) t ≡ begin_fault history t
begin-kept history t = ap (λ b. cond b (Some faults.Busy) (not_later (last_moment history) t)) (is_some-option_map (kept_open (group_terms history.group)) history.opened)

gather-kept : (history : History (List Entry)) (number : ℕ) → gather_fault (kept_history history) number ≡ gather_fault history number
gather-kept history number = within history.opened
  where
    within : (o : Option (OpenEvaluation (List Entry))) → asked_fault (option_map (kept_open (group_terms history.group)) o) number ≡ asked_fault o number
    within None = refl
    within (Some opened) = ap (λ b. cond b (Some faults.AlreadyGathered) None) (is_gathered-kept (group_terms history.group) opened number)

commit-kept : (history : History (List Entry)) → commit_fault (kept_history history) ≡ commit_fault history
commit-kept history = within history.opened
  where
    within : (o : Option (OpenEvaluation (List Entry))) → closing_fault (option_map (kept_open (group_terms history.group)) o) (is_session_full history) ≡ closing_fault o (is_session_full history)
    within None = refl
    within (Some opened) = ap (λ b. cond b (cond (is_session_full history) (Some faults.SessionFull) None) (Some faults.Incomplete)) (is_complete-kept (group_terms history.group) opened)

abandon-kept : (history : History (List Entry)) → abandon_fault (kept_history history) ≡ abandon_fault history
abandon-kept history = ap (λ b. cond b None (Some faults.NotOpen)) (is_some-option_map (kept_open (group_terms history.group)) history.opened)

edit-kept : (to : Group) (history : History (List Entry)) → edit_refusal to (kept_history history) ≡ edit_refusal to history
edit-kept to history = ap (λ b. cond (is_text to.name history.group.name) (option_map refusals.Book (cond b (Some faults.Busy) (cond (is_session_full history) (Some faults.SessionFull) None))) (Some refusals.NoSuch)) (is_some-option_map (kept_open (group_terms history.group)) history.opened)

known-kept : (o : Option (History (List Entry))) (f : History (List Partial) → Option Refusal) (h : History (List Entry) → Option Refusal) → ((history : History (List Entry)) → f (kept_history history) ≡ h history) → known (option_map kept_history o) f ≡ known o h
known-kept None f h same = refl
known-kept (Some history) f h same = same history

module _ (world : Lists) where
  at_group : (group : ℕ) (f : History (List Partial) → Option Refusal) (h : History (List Entry) → Option Refusal) → ((history : History (List Entry)) → f (kept_history history) ≡ h history)
      → known (slice_get (map kept_history world.histories) group) f ≡ known (slice_get world.histories group) h
  at_group group f h same = ap (λ o. known o f) (slice_get-map kept_history world.histories group) ∙ known-kept (slice_get world.histories group) f h same

  refusal-kept : (step : Step) → refusal_of (kept_world world) step ≡ refusal_of world step
  refusal-kept (steps.Shard number step) = refl
  refusal-kept (steps.Edit group to) = at_group group (edit_refusal to) (edit_refusal to) (edit-kept to)
  refusal-kept (steps.Begin group t) = at_group group (λ history. option_map refusals.Book (begin_fault history t)) (λ history. option_map refusals.Book (begin_fault history t)) (λ history. ap (option_map refusals.Book) (begin-kept history t))
  refusal-kept (steps.Gather group number) =
      at_group group (λ history. known (slice_get world.shards number) (λ shard. or_else (option_map refusals.Book (gather_fault history number)) (journal_refusal shard)))
      (λ history. known (slice_get world.shards number) (λ shard. or_else (option_map refusals.Book (gather_fault history number)) (journal_refusal shard)))
      (λ history. ap (λ fault. known (slice_get world.shards number) (λ shard. or_else (option_map refusals.Book fault) (journal_refusal shard))) (gather-kept history number))
  refusal-kept (steps.Commit group) = at_group group (λ history. option_map refusals.Book (commit_fault history)) (λ history. option_map refusals.Book (commit_fault history)) (λ history. ap (option_map refusals.Book) (commit-kept history))
  refusal-kept (steps.Abandon group) = at_group group (λ history. option_map refusals.Book (abandon_fault history)) (λ history. option_map refusals.Book (abandon_fault history)) (λ history. ap (option_map refusals.Book) (abandon-kept history))
  refusal-kept (steps.CatchUp group) = at_group group (λ history. None) (λ history. None) (λ history. refl)

-- a turn of lists that is not refused, and what is kept of where it leads
record LiftedTurn (world : Lists) (step : Step) (reply : Reply) (new : Parts) : Type 0 where
  pub after : Lists
  pub stands : Stands new after
  pub turn : Turn lists world step reply after

-- one history replaced, and what is kept of it
set-kept : (world : Lists) (group : ℕ) (history : History (List Entry)) → with_history (kept_world world) group (kept_history history) ≡ kept_world (with_history world group history)
set-kept world group history = λ i. record { shards = world.shards; histories = sym (map-set kept_history world.histories group history) i }

replicate_none : (f : Option (Gathered (List Entry)) → Option (Gathered (List Partial))) → f None ≡ None → (n : ℕ) → replicate n None ≡ map f (replicate n None)
replicate_none f none zero = refl
replicate_none f none (suc n) = λ i. sym none i ∷ replicate_none f none n i

begun-kept : (shards : ℕ) (history : History (List Entry)) (t : ℕ) → begun shards (kept_history history) t ≡ kept_history (begun shards history t)
begun-kept shards history t = λ i. record {
  first = history.first;
  records = history.records;
  items = history.items;
  group = history.group;
  evaluations = history.evaluations;
  opened = Some (record { t = t; gathered = replicate_none (option_map (kept_answer (group_terms history.group) t)) refl shards i });
}

shown-kept : (terms : List Term) (opened : OpenEvaluation (List Entry)) (number place : ℕ) (entries : List Entry) → with_shown number place (partials_of entries terms opened.t) (kept_open terms opened) ≡ kept_open terms (with_shown number place entries opened)
shown-kept terms opened number place entries = λ i. record {
  t = opened.t;
  gathered = sym (map-set (option_map (kept_answer terms opened.t)) opened.gathered number (Some (record { place = place; shown = entries }))) i;
}

gathered-kept : (history : History (List Entry)) (opened : OpenEvaluation (List Entry)) (number place : ℕ) (entries : List Entry) → history.opened ≡ Some opened
    → gathered (kept_history history) number place (partials_of entries (group_terms history.group) opened.t) ≡ kept_history (gathered history number place entries)
gathered-kept history opened number place entries is =
    let terms = group_terms history.group in
    λ i. record {
      first = history.first;
      records = history.records;
      items = history.items;
      group = history.group;
      evaluations = history.evaluations;
      opened = (ap (λ o. option_map (with_shown number place (partials_of entries terms opened.t)) (option_map (kept_open terms) o)) is
          ∙ ap (λ o. Some o) (shown-kept terms opened number place entries)
          ∙ ap (λ o. option_map (kept_open terms) (option_map (with_shown number place entries) o)) (sym is)) i;
    }

lift_shard : (world : Lists) (number : ℕ) (step : ShardStep) (place : ℕ) (reply : ShardReply) (new : Parts) → ShardTurn (kept_world world) number step place reply new → LiftedTurn world (steps.Shard number step) (replies.Decided place reply) new
lift_shard world number step place reply new turn = record {
  after = with_shard world number (recorded turn.shard step);
  stands = turn.after;
  turn = record { shard = turn.shard; there = turn.there; place_is = turn.place_is; reply_is = turn.reply_is; after = refl };
}

-- a change of a history that may be made before or after the keeping
lift_history : (world : Lists) (group : ℕ) (step : Step) (reply : Reply) (kept_change : History (List Partial) → History (List Partial)) (change : History (List Entry) → History (List Entry)) (new : Parts)
    → ((history : History (List Entry)) → kept_change (kept_history history) ≡ kept_history (change history)) → ((after : Lists) → HistoryTurn change world group after → Turn lists world step reply after)
    → HistoryTurn kept_change (kept_world world) group new → LiftedTurn world step reply new
lift_history world group step reply kept_change change new commutes is_turn turn =
    let found = history_in world.histories group turn.history turn.there in
    record {
      after = with_history world group (change found.item);
      stands = turn.after ∙ ap (λ h. with_history (kept_world world) group (kept_change h)) (sym found.value) ∙ ap (with_history (kept_world world) group) (commutes found.item) ∙ set-kept world group (change found.item);
      turn = is_turn (with_history world group (change found.item)) (record { history = found.item; there = found.is; after = refl });
    }

lift_edit : (world : Lists) (group : ℕ) (to : Group) (place : ℕ) (new : Parts) → EditTurn (kept_world world) group to place new → LiftedTurn world (steps.Edit group to) (replies.Edited place) new
lift_edit world group to place new turn =
    let found = history_in world.histories group turn.history turn.there in
    record {
      after = with_history world group (edited found.item to);
      stands = turn.after ∙ ap (λ h. with_history (kept_world world) group (edited h to)) (sym found.value) ∙ set-kept world group (edited found.item to);
      turn = record { history = found.item; there = found.is; place_is = turn.place_is ∙ ap (λ (h : History (List Partial)). length h.items) (sym found.value); after = refl };
    }

lift_gather : (world : Lists) (group number place : ℕ) (new : Parts) → GatherTurn partials (kept_world world) group number place new → LiftedTurn world (steps.Gather group number) (replies.Gathered place) new
lift_gather world group number place new turn =
    let found = history_in world.histories group turn.history turn.there in
    let history = found.item in
    let open_found = found_in (kept_open (group_terms history.group)) history.opened turn.opened (ap (λ (h : History (List Partial)). h.opened) found.value ∙ turn.open_is) in
    let opened = open_found.item in
    let entries = visible turn.shard.state in
    let terms = group_terms history.group in
    let asked = recorded turn.shard (shard_steps.Collect group terms opened.t) in
    let kept_now : gathered turn.history number place (partials_of entries (group_terms turn.history.group) turn.opened.t) ≡ kept_history (gathered history number place entries)
    = (λ i. gathered (sym found.value i) number place (partials_of entries (group_terms (sym found.value i).group) (sym open_found.value i).t)) ∙ gathered-kept history opened number place entries open_found.is in
    record {
      after = with_history (with_shard world number asked) group (gathered history number place entries);
      stands = turn.after ∙ ap (with_history (kept_world (with_shard world number asked)) group) kept_now ∙ set-kept (with_shard world number asked) group (gathered history number place entries);
      turn = record { history = history; there = found.is; opened = opened; open_is = open_found.is; shard = turn.shard; shard_there = turn.shard_there; place_is = turn.place_is; after = refl };
    }

lift_commit : (world : Lists) (group : ℕ) (answer : Committed) (new : Parts) → CommitTurn partials (kept_world world) group answer new → LiftedTurn world (steps.Commit group) (replies.Committed answer) new
lift_commit world group answer new turn =
    let found = history_in world.histories group turn.history turn.there in
    let history = found.item in
    let open_found = found_in (kept_open (group_terms history.group)) history.opened turn.opened (ap (λ (h : History (List Partial)). h.opened) found.value ∙ turn.open_is) in
    record {
      after = with_history world group (committed history answer.evaluation);
      stands = turn.after ∙ ap (λ h. with_history (kept_world world) group (committed h answer.evaluation)) (sym found.value) ∙ set-kept world group (committed history answer.evaluation);
      turn = record {
        history = history;
        there = found.is;
        opened = open_found.item;
        open_is = open_found.is;
        number_is = turn.number_is ∙ ap (λ (h : History (List Partial)). length h.evaluations) (sym found.value);
        evaluation_is = turn.evaluation_is ∙ (λ i. partials.evaluate (sym found.value i).group (alerts_of (sym found.value i)) (sym open_found.value i)) ∙ kept_evaluation history.group (alerts_of history) open_found.item;
        after = refl;
      };
    }

lift_turn : (world : Lists) (step : Step) (reply : Reply) (new : Parts) → Turn partials (kept_world world) step reply new → LiftedTurn world step reply new
lift_turn world (steps.Shard number step) (replies.Decided place reply) new turn = lift_shard world number step place reply new turn
lift_turn world (steps.Edit group to) (replies.Edited place) new turn = lift_edit world group to place new turn
lift_turn world (steps.Begin group t) replies.Begun new turn =
    lift_history world group (steps.Begin group t) replies.Begun (λ history. begun (length world.shards) history t) (λ history. begun (length world.shards) history t) new (λ history. begun-kept (length world.shards) history t) (λ after turn. turn) turn
lift_turn world (steps.Gather group number) (replies.Gathered place) new turn = lift_gather world group number place new turn
lift_turn world (steps.Commit group) (replies.Committed answer) new turn = lift_commit world group answer new turn
lift_turn world (steps.Abandon group) replies.Abandoned new turn = lift_history world group (steps.Abandon group) replies.Abandoned abandoned abandoned new (λ history. refl) (λ after turn. turn) turn
lift_turn world (steps.CatchUp group) (replies.CaughtUp behind) new turn = lift_history world group (steps.CatchUp group) (replies.CaughtUp behind) (λ history. history) (λ history. history) new (λ history. refl) (λ after turn. turn) turn
lift_turn world step reply new turn = absurd turn

refused_kept : (world : Lists) (step : Step) (refusal : Refusal) → MayRefuse (kept_world world) step refusal → MayRefuse world step refusal
refused_kept world step refusal (inl first) = inl (sym (refusal-kept world step) ∙ first)
refused_kept world step refusal (inr failed) = inr (sym (refusal-kept world step) ∙ failed.0, failed.1)

lift_free : (world : Lists) (step : Step) (reply : Reply) (new : Parts) → (refusal_of (kept_world world) step ≡ None) × Turn partials (kept_world world) step reply new → (after : Lists) × Stands new after × ((refusal_of world step ≡ None) × Turn lists world step reply after)
lift_free world step reply new free =
    let lifted = lift_turn world step reply new free.1 in
    (lifted.after, lifted.stands, (sym (refusal-kept world step) ∙ free.0, lifted.turn))

-- every step on what is kept is one on the lists
pub lift_step : (world : Lists) (step : Step) (reply : Reply) (new : Parts) → WorldStep partials (kept_world world) step reply new → (after : Lists) × Stands new after × WorldStep lists world step reply after
lift_step world step (replies.Refused refusal) new turn = (world, turn.1, (refused_kept world step refusal turn.0, refl))
lift_step world step reply new turn = lift_free world step reply new turn
