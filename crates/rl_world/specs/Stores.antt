-- What the replies of a run say of the stores of its shards.
use Rattle.std.specs.Prelude.{◌≡◌, ◌==◌, ℕ, ◌<◌, Bool, true, false, ◌&&◌, List, Some, slice_get, zip}
use Rattle.std.specs.List.{list_any}
use Rattle.rl_chunks.specs.StoreState.{greatest}
use Rattle.rl_parts.specs.StoreUse.{FaultsRise}
use Rattle.rl_shard.specs.ShardFault.{IsHonest}
use Rattle.rl_shard.specs.ShardState.{ShardView}
use Rattle.rl_world.specs.declared.fault.Refusal.TheVariants as refusals
use Rattle.rl_world.specs.declared.step.Step.{Step}
use Rattle.rl_world.specs.declared.step.Step.TheVariants as steps
use Rattle.rl_world.specs.declared.step.Reply.{Reply}
use Rattle.rl_world.specs.declared.step.Reply.TheVariants as replies

-- whether a step asks the shard
abbrev pub asks : ℕ → Step → Bool
asks number (steps.Shard shard step) = shard == number
asks number (steps.Gather group shard) = shard == number
asks number step = false

-- whether a reply says that the device failed, that a chunk was damaged, or that no number is left
abbrev pub is_fault_reply : Reply → Bool
is_fault_reply (replies.Refused refusals.Fault) = true
is_fault_reply reply = false

abbrev pub is_damage_reply : Reply → Bool
is_damage_reply (replies.Refused refusals.Damaged) = true
is_damage_reply reply = false

abbrev pub is_spent_reply : Reply → Bool
is_spent_reply (replies.Refused refusals.NumbersSpent) = true
is_spent_reply reply = false

-- whether a reply to a step that asks the shard says so
abbrev pub is_reported : ℕ → (Reply → Bool) → Step × Reply → Bool
is_reported number reports turn = asks number turn.0 && reports turn.1

-- whether one of them does
abbrev pub was_reported : ℕ → (Reply → Bool) → List (Step × Reply) → Bool
was_reported number reports turns = list_any (λ turn. is_reported number reports turn) turns

-- what a run says of the store of a shard: it is as honest as before, and its faults never go down; where none was counted and
-- more can be, no reply reports one; where one says that the numbers are spent, only the greatest is left; and over an honest
-- store none reports damage
pub record StoreFollows (number : ℕ) (turns : List (Step × Reply)) (before after : ShardView) : Type 0 where
  pub honest : after.streams.seen.honest ≡ before.streams.seen.honest
  pub faults : FaultsRise before.streams.seen.faults after.streams.seen.faults
  pub no_fault : after.streams.seen.faults ≡ before.streams.seen.faults → before.streams.seen.faults < greatest → was_reported number is_fault_reply turns ≡ false
  pub spent : was_reported number is_spent_reply turns ≡ true → after.streams.next ≡ greatest
  pub undamaged : IsHonest before → was_reported number is_damage_reply turns ≡ false

-- the shard is still there, and its store follows
pub record StoreFollowsIn (number : ℕ) (turns : List (Step × Reply)) (before : ShardView) (shards : List ShardView) : Type 0 where
  pub after : ShardView
  pub there : slice_get shards number ≡ Some after
  pub follows : StoreFollows number turns before after

-- the store of each shard
abbrev pub StoresFollow : List ShardView → List Step → List Reply → List ShardView → Type 0
StoresFollow old steps replies new = (number : ℕ) (before : ShardView) → slice_get old number ≡ Some before → StoreFollowsIn number (zip steps replies) before new
