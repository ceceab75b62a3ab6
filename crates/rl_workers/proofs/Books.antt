-- The shards and the books of a ruler, as they begin.
use Rattle.std.proofs.Common.{◌≡◌, ℕ, suc, List, [], ◌∷◌, map, length, refl, ap, arith}
use Rattle.std.specs.List.{AllByRecursion}
use Rattle.rl_labels.specs.declared.limits.Limits.{Limits}
use Rattle.rl_rules.specs.declared.rule.Group.{Group}
use Rattle.rl_chunks.specs.StoreState.{Seen}
use Rattle.rl_shard.specs.ShardState.{ShardView, opened_over}
use Rattle.rl_sinks.specs.SinkState.{SinkState}
use Rattle.rl_world.specs.BookCalls.{books_from}
use Rattle.rl_workers.specs.Closing.{IsSeated}

-- none has an evaluation open, and each asks all shards
pub seated_from : (slot records shards : ℕ) (groups : List Group) (sinks : List (List SinkState)) → AllByRecursion (IsSeated shards) (books_from slot records shards groups sinks)
seated_from slot records shards [] sinks = tt
seated_from slot records shards (group ∷ groups) [] = tt
seated_from slot records shards (group ∷ groups) (own ∷ sinks) = ((refl, refl), seated_from (suc slot) records shards groups sinks)

-- there is one for each group
pub count_from : (slot records shards : ℕ) (groups : List Group) (sinks : List (List SinkState)) → length sinks ≡ length groups → length (books_from slot records shards groups sinks) ≡ length groups
count_from slot records shards [] sinks same_number = refl
count_from slot records shards (group ∷ groups) [] same_number = absurd (omega (arith, same_number))
count_from slot records shards (group ∷ groups) (own ∷ sinks) same_number = ap suc (count_from (suc slot) records shards groups sinks (omega (arith, same_number)))

-- each journal is empty
pub empty_over : {S : Type 0} (seen : S → Seen) (limits : Limits) (stores : List S) → AllByRecursion (λ (shard : ShardView). shard.journal ≡ []) (map (λ store. opened_over limits (seen store)) stores)
empty_over seen limits [] = tt
empty_over seen limits (store ∷ stores) = (refl, empty_over seen limits stores)
