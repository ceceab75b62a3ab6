-- What becomes of an entry, over any store.
use Rattle.std.specs.Prelude.{◌≡◌, ◌⊎◌, ℕ, Bool, false, Option, None, Some, Result, Ok, Err}
use Rattle.std.specs.Option.{MatchOption}
use Rattle.rl_labels.specs.declared.entry.Entry.{Entry}
use Rattle.rl_streams.specs.Found.{IsSettled, IsSettledUnread, IsUnreached}
use Rattle.rl_streams.specs.StreamsState.{StreamsView, age_refusal}
use Rattle.rl_streams.specs.declared.refusal.AddRefusal.{AddRefusal}
use Rattle.rl_shard.specs.ShardFault.{refused}
use Rattle.rl_records.specs.declared.step.ShardStep.{ShardStep}
use Rattle.rl_records.specs.declared.step.ShardStep.TheVariants as steps
use Rattle.rl_records.specs.declared.step.ShardReply.{ShardReply}
use Rattle.rl_records.specs.declared.step.ShardReply.TheVariants as replies
use Rattle.rl_shard.specs.declared.step.ShardFault.{ShardFault}
use Rattle.rl_shard.specs.declared.step.ShardFault.TheVariants as faults

-- how a push is answered, by what the streams answered: one that was held is accepted too
abbrev pub reply_to_add : Result Bool AddRefusal → Result ShardReply ShardFault
reply_to_add (Ok _) = Ok replies.Accepted
reply_to_add (Err refusal) = refused refusal

-- whether streams took an entry
abbrev pub is_taken : Result Bool AddRefusal → Bool
is_taken (Ok taken) = taken
is_taken (Err _) = false

-- an entry that was sought is answered as it was settled: found, or missing and taken where there is room; and exactly so where no
-- written part of its stream reaches its timestamp
pub record IsSought (old : StreamsView) (entry : Entry) (result : Result ShardReply ShardFault) (new : StreamsView) : Type 0 where
  pub added : Result Bool AddRefusal
  pub answered : result ≡ reply_to_add added
  pub settled : IsSettled added old entry new
  pub exact : IsUnreached old.rows entry → IsSettledUnread added old entry new

-- one for which windows have no memory is not sought
abbrev pub IsUnsought : StreamsView → Result ShardReply ShardFault → StreamsView → Type 0
IsUnsought old result new = (result ≡ Err faults.Memory) × (new ≡ old)

-- what becomes of an entry for which windows have no memory, by whether it is refused for its age
abbrev pub unsought : Option AddRefusal → Result ShardReply ShardFault
unsought None = Err faults.Memory
unsought (Some refusal) = refused refusal

-- a push is refused for the age of its entry, or the entry is sought, or there is no memory for it in windows
abbrev pub IsPushed : StreamsView → (horizon : ℕ) → Entry → Result ShardReply ShardFault → StreamsView → Type 0
IsPushed old horizon entry result new =
    MatchOption (age_refusal old.limits old.newest horizon entry) (IsSought old entry result new ⊎ IsUnsought old result new) (λ refusal. (result ≡ refused refusal) × (new ≡ old))

-- a reply without its place in the journal
abbrev pub replied : Result (ℕ × ShardReply) ShardFault → Result ShardReply ShardFault
replied (Ok answer) = Ok answer.1
replied (Err fault) = Err fault

-- of a step that takes an entry, once there is room for its record
abbrev pub IsOfPush : StreamsView → (horizon : ℕ) → ShardStep → Result ShardReply ShardFault → StreamsView → Type 0
IsOfPush old horizon (steps.Push entry) result new = IsPushed old horizon entry result new
IsOfPush old horizon step result new = Unit {0}

-- of a step: it takes an entry, or no memory is left for its record, and the entry is not sought
abbrev pub Pushes : StreamsView → (horizon : ℕ) → ShardStep → Result ShardReply ShardFault → StreamsView → Type 0
Pushes old horizon step result new = IsOfPush old horizon step result new ⊎ IsUnsought old result new
