-- What follows of a run for the stores of its shards: an honest one stays honest, and each follows the replies.
use Rattle.std.proofs.Common.{◌≡◌, ◌⊎◌, inl, inr, ℕ, zero, suc, ◌<◌, Bool, true, false, ◌&&◌, ◌||◌, List, [], ◌∷◌, None, Some, slice_get, slice_set, nat_eq, refl, sym, ap, subst, ◌∙◌, arith}
use Rattle.std.specs.List.{zip}
use Rattle.std.proofs.lemmas.Bool.{eqb-true, eqb-false}
use Rattle.rl_chunks.specs.StoreState.{greatest}
use Rattle.rl_parts.specs.StoreUse.{FaultsRise, FaultCame}
use Rattle.rl_parts.specs.laws.UseLaws.{with_fault-came}
use Rattle.rl_shard.specs.ShardFault.{IsHonest, IsOfStore, step_faults}
use Rattle.rl_shard.specs.ShardState.{ShardView}
use Rattle.rl_shard.specs.declared.step.ShardFault.{ShardFault}
use Rattle.rl_shard.specs.declared.step.ShardFault.TheVariants as shard_faults
use Rattle.rl_records.specs.declared.step.ShardReply.TheVariants as shard_replies
use Rattle.rl_world.specs.ShardsTurn.{AreHonest, Decides, Faults, IsAsked, ShardsTurn, collect_for}
use Rattle.rl_world.specs.Stores.{StoreFollows, StoresFollow, asks, is_reported, is_damage_reply, is_fault_reply, is_spent_reply, was_reported}
use Rattle.rl_world.specs.WorldRun.{Ran}
use Rattle.rl_world.specs.WorldState.{WorldBooks}
use Rattle.rl_world.specs.WorldStep.{is_store_refusal, refusal_of_shard}
use Rattle.rl_world.specs.declared.fault.Refusal.{Refusal}
use Rattle.rl_world.specs.declared.fault.Refusal.TheVariants as refusals
use Rattle.rl_world.specs.declared.step.Step.{Step}
use Rattle.rl_world.specs.declared.step.Step.TheVariants as steps
use Rattle.rl_world.specs.declared.step.Reply.{Reply}
use Rattle.rl_world.specs.declared.step.Reply.TheVariants as replies

none_some : {X : Type 0} (x : X) → None ≡ Some x → ⊥
none_some x h = cc

some_is : {X : Type 0} (a b : X) → Some a ≡ Some b → a ≡ b
some_is a b h = cc

true_false : true ≡ false → ⊥
true_false h = cc

not_both : (b : Bool) → b ≡ true → b ≡ false → ⊥
not_both b holds fails = true_false (sym holds ∙ fails)

not_true : (b : Bool) → (b ≡ true → ⊥) → b ≡ false
not_true true h = absurd (h refl)
not_true false h = refl

and_second : (a b : Bool) → (a && b) ≡ true → b ≡ true
and_second true b h = h
and_second false b h = absurd (true_false (sym h))

and_first : (a b : Bool) → (a && b) ≡ true → a ≡ true
and_first true b h = refl
and_first false b h = h

or_cases : (a b : Bool) → (a || b) ≡ true → (a ≡ true) ⊎ (b ≡ true)
or_cases true b h = inl refl
or_cases false b h = inr h

-- a look-up in a list of which one item was replaced
pub get_set : {X : Type 0} (xs : List X) (k : ℕ) (x y : X) → slice_get xs k ≡ Some x → slice_get (slice_set xs k y) k ≡ Some y
get_set [] k x y there = absurd (none_some x there)
get_set (z ∷ xs) zero x y there = refl
get_set (z ∷ xs) (suc k) x y there = get_set xs k x y there

pub get_set_other : {X : Type 0} (xs : List X) (j k : ℕ) (y : X) → (j ≡ k → ⊥) → slice_get (slice_set xs j y) k ≡ slice_get xs k
get_set_other [] j k y apart = refl
get_set_other (z ∷ xs) zero zero y apart = absurd (apart refl)
get_set_other (z ∷ xs) zero (suc k) y apart = refl
get_set_other (z ∷ xs) (suc j) zero y apart = refl
get_set_other (z ∷ xs) (suc j) (suc k) y apart = get_set_other xs j k y (λ h. apart (ap suc h))

-- the honest stores of which one was replaced by one as honest
honest_set : (shards : List ShardView) (number : ℕ) (before after : ShardView) → slice_get shards number ≡ Some before → after.streams.seen.honest ≡ before.streams.seen.honest → AreHonest shards → AreHonest (slice_set shards number after)
honest_set [] number before after there same all = all
honest_set (shard ∷ shards) zero before after there same all = (same ∙ subst IsHonest (some_is shard before there) all.0, all.1)
honest_set (shard ∷ shards) (suc number) before after there same all = (all.0, honest_set shards number before after there same all.1)

asked_honest : (old : List ShardView) (number : ℕ) (new : List ShardView) (becomes : ShardView → ShardView → Type 0) → IsAsked old number new becomes → AreHonest old → AreHonest new
asked_honest old number new becomes asked all = subst AreHonest (sym asked.now) (honest_set old number asked.before asked.after asked.there asked.stored.honest all)

-- honest stores stay honest
pub still_honest : (old : WorldBooks) (step : Step) (reply : Reply) (new : WorldBooks) → ShardsTurn old step reply new → AreHonest old.shards → AreHonest new.shards
still_honest old (steps.Shard number step) (replies.Decided place reply) new turn all = asked_honest old.shards number new.shards (Decides place step reply) turn.0 all
still_honest old (steps.Shard number step) (replies.Refused refusal) new (inl unasked) all = subst AreHonest (sym unasked.1) all
still_honest old (steps.Shard number step) (replies.Refused refusal) new (inr met) all = asked_honest old.shards number new.shards (Faults step refusal) met.0 all
still_honest old (steps.Shard number step) other new turn all = absurd turn
still_honest old (steps.Gather group number) (replies.Gathered place) new turn all = asked_honest old.shards number new.shards (Decides place (collect_for group turn.asked.book turn.asked.opened) (shard_replies.Collected turn.partials)) turn.decided all
still_honest old (steps.Gather group number) (replies.Refused refusal) new (inl unasked) all = subst AreHonest (sym unasked.1) all
still_honest old (steps.Gather group number) (replies.Refused refusal) new (inr turn) all = asked_honest old.shards number new.shards (Faults (collect_for group turn.asked.book turn.asked.opened) refusal) turn.met all
still_honest old (steps.Gather group number) other new turn all = absurd turn
still_honest old step reply new same all = subst AreHonest (sym same) all

-- what a reply says of the store of the shard that was asked
record Reports (reply : Reply) (before after : ShardView) : Type 0 where
  pub fault : is_fault_reply reply ≡ true → FaultCame before.streams.seen.faults after.streams.seen.faults
  pub spent : is_spent_reply reply ≡ true → after.streams.next ≡ greatest
  pub damage : is_damage_reply reply ≡ true → before.streams.seen.honest ≡ false

cause_reported : (fault : ShardFault) (before after : ShardView) → after.streams.seen.faults ≡ step_faults fault before.streams.seen.faults → IsOfStore before.streams fault after.streams → Reports (replies.Refused (refusal_of_shard fault)) before after
cause_reported shard_faults.JournalFull before after counted of_store = record { fault = λ h. absurd (true_false (sym h)); spent = λ h. absurd (true_false (sym h)); damage = λ h. absurd (true_false (sym h)) }
cause_reported shard_faults.Fault before after counted of_store = record { fault = λ h. subst (FaultCame before.streams.seen.faults) (sym counted) (with_fault-came before.streams.seen.faults); spent = λ h. absurd (true_false (sym h)); damage = λ h. absurd (true_false (sym h)) }
cause_reported shard_faults.Damaged before after counted of_store = record { fault = λ h. absurd (true_false (sym h)); spent = λ h. absurd (true_false (sym h)); damage = λ h. of_store }
cause_reported shard_faults.NumbersSpent before after counted of_store = record { fault = λ h. absurd (true_false (sym h)); spent = λ h. of_store; damage = λ h. absurd (true_false (sym h)) }
cause_reported shard_faults.Memory before after counted of_store = record { fault = λ h. absurd (true_false (sym h)); spent = λ h. absurd (true_false (sym h)); damage = λ h. absurd (true_false (sym h)) }

-- what a turn makes of the store of one shard
record StoreTurn (number : ℕ) (step : Step) (reply : Reply) (before : ShardView) (shards : List ShardView) : Type 0 where
  pub after : ShardView
  pub there : slice_get shards number ≡ Some after
  pub honest : after.streams.seen.honest ≡ before.streams.seen.honest
  pub faults : FaultsRise before.streams.seen.faults after.streams.seen.faults
  pub stays : before.streams.next ≡ greatest → after.streams.next ≡ greatest
  pub reports : asks number step ≡ true → Reports reply before after

-- a shard that was not asked, or of which nothing is reported
store_kept : (number : ℕ) (step : Step) (reply : Reply) (before : ShardView) (shards : List ShardView) → slice_get shards number ≡ Some before → (asks number step ≡ true → Reports reply before before) → StoreTurn number step reply before shards
store_kept number step reply before shards there reports = record { after = before; there = there; honest = refl; faults = omega arith; stays = λ h. h; reports = reports }

-- a refusal that is no store's says nothing of one
unreported : (refusal : Refusal) (before after : ShardView) → is_store_refusal refusal ≡ false → Reports (replies.Refused refusal) before after
unreported refusals.Fault before after free = absurd (true_false free)
unreported refusals.Damaged before after free = absurd (true_false free)
unreported refusals.NumbersSpent before after free = absurd (true_false free)
unreported other before after free = record { fault = λ h. absurd (true_false (sym h)); spent = λ h. absurd (true_false (sym h)); damage = λ h. absurd (true_false (sym h)) }

-- a shard that was asked, and the others
store_asked : (number asked : ℕ) (step : Step) (reply : Reply) (before : ShardView) (old new : List ShardView) (becomes : ShardView → ShardView → Type 0) → asks number step ≡ nat_eq asked number → slice_get old number ≡ Some before → (is : IsAsked old asked new becomes) → Reports reply is.before is.after
    → StoreTurn number step reply before new
store_asked number asked step reply before old new becomes asks_is there is reports = cases (nat_eq asked number) refl
  where
    here : asked ≡ number → StoreTurn number step reply before new
    here same =
        let own : is.before ≡ before = some_is is.before before (sym is.there ∙ ap (slice_get old) same ∙ there) in
        subst (λ b. StoreTurn number step reply b new) own (record {
          after = is.after;
          there = ap (λ l. slice_get l number) is.now ∙ ap (λ k. slice_get (slice_set old k is.after) number) same ∙ get_set old number before is.after there;
          honest = is.stored.honest;
          faults = is.stored.faults;
          stays = λ spent. omega (arith, is.stored.next, is.numbers, spent);
          reports = λ h. reports;
        })

    cases : (b : Bool) → nat_eq asked number ≡ b → StoreTurn number step reply before new
    cases true same = here (eqb-true asked number same)
    cases false apart = store_kept number step reply before new (ap (λ l. slice_get l number) is.now ∙ get_set_other old asked number is.after (eqb-false asked number apart) ∙ there) (λ h. absurd (not_both (asks number step) h (asks_is ∙ apart)))

silent : (reply : Reply) (before after : ShardView) → is_fault_reply reply ≡ false → is_spent_reply reply ≡ false → is_damage_reply reply ≡ false → Reports reply before after
silent reply before after fault spent damage = record { fault = λ h. absurd (not_both (is_fault_reply reply) h fault); spent = λ h. absurd (not_both (is_spent_reply reply) h spent); damage = λ h. absurd (not_both (is_damage_reply reply) h damage) }

faults_reported : {step : _} (refusal : Refusal) (before after : ShardView) → Faults step refusal before after → Reports (replies.Refused refusal) before after
faults_reported refusal before after met = subst (λ r. Reports (replies.Refused r) before after) (sym met.reported) (cause_reported met.fault before after met.cause.counted met.cause.of_store)

turn_stores : (old : WorldBooks) (step : Step) (reply : Reply) (new : WorldBooks) (number : ℕ) (before : ShardView) → ShardsTurn old step reply new → slice_get old.shards number ≡ Some before → StoreTurn number step reply before new.shards
turn_stores old (steps.Shard shard step) (replies.Decided place reply) new number before turn there =
    store_asked number shard (steps.Shard shard step) (replies.Decided place reply) before old.shards new.shards (Decides place step reply) refl there turn.0 (silent (replies.Decided place reply) turn.0.before turn.0.after refl refl refl)
turn_stores old (steps.Shard shard step) (replies.Refused refusal) new number before (inl unasked) there =
    store_kept number (steps.Shard shard step) (replies.Refused refusal) before new.shards (ap (λ l. slice_get l number) unasked.1 ∙ there) (λ h. unreported refusal before before unasked.0)
turn_stores old (steps.Shard shard step) (replies.Refused refusal) new number before (inr met) there =
    store_asked number shard (steps.Shard shard step) (replies.Refused refusal) before old.shards new.shards (Faults step refusal) refl there met.0 (faults_reported refusal met.0.before met.0.after met.0.as_said)
turn_stores old (steps.Shard shard step) other new number before turn there = absurd turn
turn_stores old (steps.Gather group shard) (replies.Gathered place) new number before turn there =
    store_asked number shard (steps.Gather group shard) (replies.Gathered place) before old.shards new.shards (Decides place (collect_for group turn.asked.book turn.asked.opened) (shard_replies.Collected turn.partials)) refl there turn.decided (silent (replies.Gathered place) turn.decided.before turn.decided.after refl refl refl)
turn_stores old (steps.Gather group shard) (replies.Refused refusal) new number before (inl unasked) there =
    store_kept number (steps.Gather group shard) (replies.Refused refusal) before new.shards (ap (λ l. slice_get l number) unasked.1 ∙ there) (λ h. unreported refusal before before unasked.0)
turn_stores old (steps.Gather group shard) (replies.Refused refusal) new number before (inr turn) there =
    store_asked number shard (steps.Gather group shard) (replies.Refused refusal) before old.shards new.shards (Faults (collect_for group turn.asked.book turn.asked.opened) refusal) refl there turn.met (faults_reported refusal turn.met.before turn.met.after turn.met.as_said)
turn_stores old (steps.Gather group shard) other new number before turn there = absurd turn
turn_stores old step reply new number before same there = store_kept number step reply before new.shards (ap (λ l. slice_get l number) same ∙ there) (λ h. absurd (true_false (sym h)))

-- what turns make of the store of one shard
record FollowsOn (number : ℕ) (turns : List (Step × Reply)) (before : ShardView) (shards : List ShardView) : Type 0 where
  pub after : ShardView
  pub there : slice_get shards number ≡ Some after
  pub stays : before.streams.next ≡ greatest → after.streams.next ≡ greatest
  pub follows : StoreFollows number turns before after

no_turn : (number : ℕ) (before : ShardView) (shards : List ShardView) → slice_get shards number ≡ Some before → FollowsOn number [] before shards
no_turn number before shards there = record {
  after = before;
  there = there;
  stays = λ h. h;
  follows = record { honest = refl; faults = omega arith; no_fault = λ same more. refl; spent = λ h. absurd (true_false (sym h)); undamaged = λ honest. refl };
}

-- faults that are as before were so meanwhile
between : (before mid after : ℕ) → FaultsRise before mid → FaultsRise mid after → after ≡ before → before < greatest → mid ≡ before
between before mid after first rest same more = omega (arith, first, rest, same, more)

none_came : (before mid : ℕ) → FaultCame before mid → mid ≡ before → before < greatest → ⊥
none_came before mid (inl rose) same more = absurd (omega (arith, rose, same))
none_came before mid (inr full) same more = absurd (omega (arith, full, same, more))

one_more : (number : ℕ) (step : Step) (reply : Reply) (turns : List (Step × Reply)) (before : ShardView) (mids news : List ShardView) → (first : StoreTurn number step reply before mids) → FollowsOn number turns first.after news → FollowsOn number ((step, reply) ∷ turns) before news
one_more number step reply turns before mids news first rest = record {
  after = rest.after;
  there = rest.there;
  stays = λ spent. rest.stays (first.stays spent);
  follows = record {
    honest = rest.follows.honest ∙ first.honest;
    faults = omega (arith, first.faults, rest.follows.faults);
    no_fault = λ same more. not_true (was_reported number is_fault_reply ((step, reply) ∷ turns)) (λ offers. fault_reported same more (or_cases (is_reported number is_fault_reply (step, reply)) (was_reported number is_fault_reply turns) offers));
    spent = λ offers. spent_reported (or_cases (is_reported number is_spent_reply (step, reply)) (was_reported number is_spent_reply turns) offers);
    undamaged = λ honest. not_true (was_reported number is_damage_reply ((step, reply) ∷ turns)) (λ offers. damage_reported honest (or_cases (is_reported number is_damage_reply (step, reply)) (was_reported number is_damage_reply turns) offers));
  };
}
  where
    fault_reported : rest.after.streams.seen.faults ≡ before.streams.seen.faults → before.streams.seen.faults < greatest → (is_reported number is_fault_reply (step, reply) ≡ true) ⊎ (was_reported number is_fault_reply turns ≡ true) → ⊥
    fault_reported same more (inl offers) = none_came before.streams.seen.faults first.after.streams.seen.faults ((first.reports (and_first (asks number step) (is_fault_reply reply) offers)).fault (and_second (asks number step) (is_fault_reply reply) offers)) (between before.streams.seen.faults first.after.streams.seen.faults rest.after.streams.seen.faults first.faults rest.follows.faults same more) more
    fault_reported same more (inr offers) =
        let as_before = between before.streams.seen.faults first.after.streams.seen.faults rest.after.streams.seen.faults first.faults rest.follows.faults same more in
        not_both (was_reported number is_fault_reply turns) offers (rest.follows.no_fault (same ∙ sym as_before) (omega (arith, more, as_before)))

    spent_reported : (is_reported number is_spent_reply (step, reply) ≡ true) ⊎ (was_reported number is_spent_reply turns ≡ true) → rest.after.streams.next ≡ greatest
    spent_reported (inl offers) = rest.stays ((first.reports (and_first (asks number step) (is_spent_reply reply) offers)).spent (and_second (asks number step) (is_spent_reply reply) offers))
    spent_reported (inr offers) = rest.follows.spent offers

    damage_reported : IsHonest before → (is_reported number is_damage_reply (step, reply) ≡ true) ⊎ (was_reported number is_damage_reply turns ≡ true) → ⊥
    damage_reported honest (inl offers) = not_both before.streams.seen.honest honest ((first.reports (and_first (asks number step) (is_damage_reply reply) offers)).damage (and_second (asks number step) (is_damage_reply reply) offers))
    damage_reported honest (inr offers) = not_both (was_reported number is_damage_reply turns) offers (rest.follows.undamaged (first.honest ∙ honest))

run_stores : (old : WorldBooks) (steps : List Step) (replies : List Reply) (new : WorldBooks) (number : ℕ) (before : ShardView) → Ran old steps replies new → slice_get old.shards number ≡ Some before → FollowsOn number (zip steps replies) before new.shards
run_stores old [] [] new number before run there = no_turn number before new.shards (ap (λ (world : WorldBooks). slice_get world.shards number) run ∙ there)
run_stores old (step ∷ steps) (reply ∷ replies) new number before run there =
    let first = turn_stores old step reply run.0 number before run.1.stores there in
    one_more number step reply (zip steps replies) before run.0.shards new.shards first (run_stores run.0 steps replies new number first.after run.2 first.there)
run_stores old [] (reply ∷ replies) new number before run there = absurd run
run_stores old (step ∷ steps) [] new number before run there = absurd run

-- every store follows
pub ran_stores : (old : WorldBooks) (steps : List Step) (replies : List Reply) (new : WorldBooks) → Ran old steps replies new → StoresFollow old.shards steps replies new.shards
ran_stores old steps replies new run number before there = let on = run_stores old steps replies new number before run there in record { after = on.after; there = on.there; follows = on.follows }
