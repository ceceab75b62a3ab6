-- What a shard shows is within what one shard may hold.
use Rattle.std.proofs.Common.{◌≡◌, ℕ, ◌≤◌, List, [], ◌∷◌, length, refl, subst}
use Rattle.std.specs.List.{AllByRecursion}
use Rattle.rl_aggregate.specs.Limited.{IsWithin}
use Rattle.rl_aggregate.specs.declared.partial.Partial.{Partial}
use Rattle.rl_labels.specs.declared.limits.Limits.{Limits}
use Rattle.rl_query.specs.declared.query.Term.{Term}
use Rattle.rl_shard.specs.Collecting.{AreRead}
use Rattle.rl_shard.specs.ShardState.{ShardState, ShardView}
use Rattle.rl_shard.specs.ShardStep.{AreWithin, IsAnswered}
use Rattle.rl_records.specs.declared.step.ShardReply.{ShardReply}
use Rattle.rl_records.specs.declared.step.ShardReply.TheVariants as replies
use Rattle.rl_records.specs.declared.step.ShardStep.TheVariants as shard_steps
use Rattle.rl_world.specs.ShardAnswers.{AreOfOneShard, most_in_shard}
use Rattle.rl_aggregate.specs.laws.Within.{within-more}

each_within : (entries : ℕ) (partials : List Partial) → entries ≤ most_in_shard → AllByRecursion (IsWithin entries) partials → AllByRecursion (IsWithin most_in_shard) partials
each_within entries [] few all = all
each_within entries (partial ∷ partials) few all = (within-more entries most_in_shard partial few all.0, each_within entries partials few all.1)

-- what the entries of one shard add up to at most
pub of_one_shard : (entries terms : ℕ) (partials : List Partial) → entries ≤ most_in_shard → AreWithin entries terms partials → AreOfOneShard terms partials
of_one_shard entries terms partials few are = record { each = are.each; within = each_within entries partials few are.within }

-- two lists that were collected are one where the replies are
pub collected_is : (a b : List Partial) → replies.Collected a ≡ replies.Collected b → a ≡ b
collected_is a b h = cc

-- it was read
pub collected_read : (shard : ShardView) (slot t : ℕ) (terms : List Term) (reply : ShardReply) (shown : List Partial) → AreRead shard.streams shard.requests shard.slots (shard_steps.Collect slot terms t) reply → reply ≡ replies.Collected shown
    → AreRead shard.streams shard.requests shard.slots (shard_steps.Collect slot terms t) (replies.Collected shown)
collected_read shard slot t terms reply shown read is = subst (AreRead shard.streams shard.requests shard.slots (shard_steps.Collect slot terms t)) is read

-- a Collect is answered in no other way
pub only_collected : (limits : Limits) (old new : ShardState) (slot t : ℕ) (terms : List Term) (reply : ShardReply) → IsAnswered limits old (shard_steps.Collect slot terms t) reply new → ((shown : List Partial) → reply ≡ replies.Collected shown → ⊥) → ⊥
only_collected limits old new slot t terms (replies.Collected shown) answered none = none shown refl
only_collected limits old new slot t terms reply answered none = answered

module _ (limits : Limits) (old new : ShardState) (slot t : ℕ) (terms : List Term) (reply : ShardReply) (shown : List Partial) (answered : IsAnswered limits old (shard_steps.Collect slot terms t) reply new) (is : reply ≡ replies.Collected shown) where
  -- what was collected is answered as over any store
  pub collected_answered : IsAnswered limits old (shard_steps.Collect slot terms t) (replies.Collected shown) new
  collected_answered = subst (λ r. IsAnswered limits old (shard_steps.Collect slot terms t) r new) is answered

  -- and is of one shard
  pub collected_of_one_shard : limits.entries ≤ most_in_shard → AreOfOneShard (length terms) shown
  collected_of_one_shard few = of_one_shard limits.entries (length terms) shown few collected_answered.0
