-- The journal of a shard.
use Rattle.std.specs.Prelude.{◌≡◌, ◌-◌, ◌≤◌, ℕ, true, List, [], ◌∷◌, length, option_map, slice_get, Option}
use Rattle.rl_labels.specs.declared.limits.Limits.{Limits}
use Rattle.rl_records.specs.RecordBytes.{digest_of}
use Rattle.rl_records.specs.declared.record.Record.{Record}
use Rattle.rl_shard.specs.ShardState.{PartsView, ShardState, empty_shard, state_of}
use Rattle.rl_shard.specs.ShardStep.{IsReply, stepped}

-- records lead from a state to another: the reply of each is that to its step in the state that those before it leave
abbrev pub LeadsTo : Limits → ShardState → List Record → ShardState → Type 0
LeadsTo limits old [] new = new ≡ old
LeadsTo limits old (one ∷ others) new = IsReply limits old one.step one.reply × LeadsTo limits (stepped limits old one.step) others new

-- records are a legal journal, and this state is its replay
abbrev pub IsJournalOf : Limits → List Record → ShardState → Type 0
IsJournalOf limits journal state = LeadsTo limits (empty_shard limits) journal state

-- what holds of a shard: its journal has no more records than it may have, and over an honest store it is legal and leads to what the
-- shard holds
pub record IsShard (parts : PartsView) (journal : List Record) : Type 0 where
  pub few : length journal ≤ parts.streams.limits.records
  pub legal : parts.streams.seen.honest ≡ true → IsJournalOf parts.streams.limits journal (state_of parts)

-- the digest of the last record, if there is one
abbrev pub last_digest : List Record → Option (List ℕ)
last_digest journal = option_map digest_of (slice_get journal (length journal - 1))
