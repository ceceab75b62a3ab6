-- What may be kept of a shard: partials whose numbers are within what a shard may hold.
use Rattle.std.specs.Prelude.{◌≡◌, ℕ, ◌<◌, List, length, Option, IfSome}
use Rattle.std.specs.List.{AllByRecursion}
use Rattle.rl_aggregate.specs.Limited.{IsWithin}
use Rattle.rl_aggregate.specs.declared.partial.Partial.{Partial}
use Rattle.rl_world.specs.declared.opened.Gathered.{Gathered}

-- the most entries that one shard may be set to hold, and the most shards
abbrev pub most_in_shard : ℕ
most_in_shard = 67108864

abbrev pub most_shards : ℕ
most_shards = 16

-- one partial for each of `terms` terms, within what one shard may hold
pub record AreOfOneShard (terms : ℕ) (partials : List Partial) : Type 0 where
  pub each : length partials ≡ terms
  pub within : AllByRecursion (IsWithin most_in_shard) partials

-- what an open evaluation has of a shard, if it was asked
abbrev pub IsKept : ℕ → Option (Gathered (List Partial)) → Type 0
IsKept terms shard_answer = IfSome shard_answer (λ answer. AreOfOneShard terms answer.shown)

-- that, as far as one term needs it
abbrev pub HasTerm : ℕ → Option (Gathered (List Partial)) → Type 0
HasTerm term shard_answer = IfSome shard_answer (λ answer. (term < length answer.shown) × AllByRecursion (IsWithin most_in_shard) answer.shown)
