-- What a turn makes of the shards and their stores, and of the books for which they are asked.
use Rattle.std.specs.Prelude.{◌≡◌, ◌⊎◌, ℕ, ◌+◌, ◌≤◌, false, List, None, Some, Ok, slice_get, slice_set}
use Rattle.std.specs.List.{AllByRecursion}
use Rattle.rl_chunks.specs.StoreState.{greatest}
use Rattle.rl_parts.specs.StoreUse.{Grown}
use Rattle.rl_aggregate.specs.declared.partial.Partial.{Partial}
use Rattle.rl_shard.specs.Collecting.{AreRead}
use Rattle.rl_shard.specs.Pushing.{Pushes}
use Rattle.rl_shard.specs.ShardFault.{Gives, IsDone, IsHonest, MayCome, Stored}
use Rattle.rl_shard.specs.ShardState.{ShardView, journalled}
use Rattle.rl_shard.specs.ShardStep.{IsAnswered}
use Rattle.rl_shard.specs.declared.step.ShardFault.{ShardFault}
use Rattle.rl_records.specs.declared.step.ShardReply.{ShardReply}
use Rattle.rl_records.specs.declared.step.ShardReply.TheVariants as shard_replies
use Rattle.rl_records.specs.declared.step.ShardStep.{ShardStep}
use Rattle.rl_records.specs.declared.step.ShardStep.TheVariants as shard_steps
use Rattle.rl_world.specs.BookCalls.{with_history}
use Rattle.rl_world.specs.Evaluating.{group_terms}
use Rattle.rl_world.specs.History.{gathered}
use Rattle.rl_world.specs.WorldState.{BookState, WorldBooks, world_of}
use Rattle.rl_world.specs.WorldStep.{is_store_refusal, refusal_of, refusal_of_shard}
use Rattle.rl_world.specs.declared.fault.Refusal.{Refusal}
use Rattle.rl_world.specs.declared.opened.OpenEvaluation.{OpenEvaluation}
use Rattle.rl_world.specs.declared.step.Step.{Step}
use Rattle.rl_world.specs.declared.step.Step.TheVariants as steps
use Rattle.rl_world.specs.declared.step.Reply.{Reply}
use Rattle.rl_world.specs.declared.step.Reply.TheVariants as replies

-- the stores of all shards are honest
abbrev pub AreHonest : List ShardView → Type 0
AreHonest shards = AllByRecursion IsHonest shards

-- one shard was asked, and the others stay
pub record IsAsked (old : List ShardView) (number : ℕ) (new : List ShardView) (becomes : ShardView → ShardView → Type 0) : Type 0 where
  pub before : ShardView
  pub there : slice_get old number ≡ Some before
  pub after : ShardView
  pub now : new ≡ slice_set old number after
  pub stored : Stored before.streams after.streams
  pub numbers : after.streams.next ≤ greatest
  pub as_said : becomes before after

-- a decided step makes a record, is answered as over any store, and was done; what it makes of an entry follows from memory and
-- from bytes with the digests that were kept
pub record Decides (place : ℕ) (step : ShardStep) (reply : ShardReply) (before after : ShardView) : Type 0 where
  pub place_is : place ≡ (journalled before).records
  pub limits : (journalled after).limits ≡ (journalled before).limits
  pub records : (journalled after).records ≡ (journalled before).records + 1
  pub answered : IsAnswered (journalled before).limits (journalled before).state step reply (journalled after).state
  pub done : IsDone (journalled before).limits (journalled before).state step before.streams after.streams
  pub read : AreRead before.streams before.requests before.slots step reply
  pub gives : Gives step before.streams after.streams
  pub pushed : Pushes before.streams before.horizon step (Ok reply) after.streams

-- a fault makes none, changes nothing that is held nor what stood in the store, and has its cause
pub record Faults (step : ShardStep) (refusal : Refusal) (before after : ShardView) : Type 0 where
  pub kept : journalled after ≡ journalled before
  pub fault : ShardFault
  pub reported : refusal ≡ refusal_of_shard fault
  pub cause : MayCome before step fault after
  pub grown : Grown before.streams.seen before.streams.next (after.streams.next + 1) after.streams.seen
  pub gives : Gives step before.streams after.streams

-- the step that asks a shard for the open evaluation of a group: about the group's terms, at the evaluation's moment
abbrev pub collect_for : ℕ → BookState → OpenEvaluation (List Partial) → ShardStep
collect_for group book opened = shard_steps.Collect group (group_terms book.history.group) opened.t

-- a group with an open evaluation, for which no refusal kept the shard from being asked
pub record IsAskable (old : WorldBooks) (group number : ℕ) : Type 0 where
  pub free : refusal_of (world_of old.shards old.books) (steps.Gather group number) ≡ None
  pub book : BookState
  pub there : slice_get old.books group ≡ Some book
  pub opened : OpenEvaluation (List Partial)
  pub open_is : book.history.opened ≡ Some opened

-- the shard decided what it was asked for the group, and the open evaluation keeps what it answered, with the place
pub record IsGathered (old : WorldBooks) (group number place : ℕ) (new : WorldBooks) : Type 0 where
  pub asked : IsAskable old group number
  pub partials : List Partial
  pub decided : IsAsked old.shards number new.shards (Decides place (collect_for group asked.book asked.opened) (shard_replies.Collected partials))
  pub kept : new.books ≡ slice_set old.books group (with_history asked.book (gathered asked.book.history number place partials))

-- or it met a fault, and the books stay
pub record IsNotGathered (old : WorldBooks) (group number : ℕ) (refusal : Refusal) (new : WorldBooks) : Type 0 where
  pub asked : IsAskable old group number
  pub met : IsAsked old.shards number new.shards (Faults (collect_for group asked.book asked.opened) refusal)
  pub stay : new.books ≡ old.books

-- no shard was asked, nothing is reported of a store, and nothing changes
abbrev pub IsUnasked : WorldBooks → Refusal → WorldBooks → Type 0
IsUnasked old refusal new = (is_store_refusal refusal ≡ false) × (new.shards ≡ old.shards) × (new.books ≡ old.books)

-- what a turn makes of the shards, of their stores, and of the books for which they are asked: a step that asks a shard is
-- decided by it, or refused before it was asked or by it, and no other step touches one
abbrev pub ShardsTurn : WorldBooks → Step → Reply → WorldBooks → Type 0
ShardsTurn old (steps.Shard number step) (replies.Decided place reply) new = IsAsked old.shards number new.shards (Decides place step reply) × (new.books ≡ old.books)
ShardsTurn old (steps.Shard number step) (replies.Refused refusal) new = IsUnasked old refusal new ⊎ (IsAsked old.shards number new.shards (Faults step refusal) × (new.books ≡ old.books))
ShardsTurn old (steps.Shard number step) other new = ⊥
ShardsTurn old (steps.Gather group number) (replies.Gathered place) new = IsGathered old group number place new
ShardsTurn old (steps.Gather group number) (replies.Refused refusal) new = IsUnasked old refusal new ⊎ IsNotGathered old group number refusal new
ShardsTurn old (steps.Gather group number) other new = ⊥
ShardsTurn old step reply new = new.shards ≡ old.shards
