-- When a shard may answer each fault, and what its steps leave of its store.
use Rattle.std.specs.Prelude.{◌≡◌, ◌+◌, ◌≤◌, ℕ, None, IsSome, Bool, true, false, IsTrue, Option, Result, Ok, Err}
use Rattle.rl_chunks.specs.StoreState.{greatest, with_fault}
use Rattle.std.specs.Option.{MatchOption}
use Rattle.rl_labels.specs.declared.entry.Entry.{Entry}
use Rattle.rl_labels.specs.declared.limits.Limits.{Limits}
use Rattle.rl_deletes.specs.Deletes.{asked, received_at, IsReceiveFault}
use Rattle.rl_parts.specs.StoreUse.{FaultsRise, Grown}
use Rattle.rl_parts.specs.declared.fault.ReadFault.{ReadFault}
use Rattle.rl_parts.specs.declared.fault.ReadFault.TheVariants as reads
use Rattle.rl_parts.specs.declared.fault.FlushFault.{FlushFault}
use Rattle.rl_parts.specs.declared.fault.FlushFault.TheVariants as flushes
use Rattle.rl_parts.specs.declared.fault.RewriteFault.{RewriteFault}
use Rattle.rl_parts.specs.declared.fault.RewriteFault.TheVariants as rewrites
use Rattle.rl_slots.specs.declared.change.AddFault.{AddFault}
use Rattle.rl_slots.specs.declared.change.AddFault.TheVariants as adds
use Rattle.rl_streams.specs.Rewritten.{AreLeftIn, Rewrites}
use Rattle.rl_streams.specs.StreamsState.{StreamsView}
use Rattle.rl_streams.specs.declared.refusal.AddRefusal.{AddRefusal}
use Rattle.rl_streams.specs.declared.refusal.AddRefusal.TheVariants as adding
use Rattle.rl_shard.specs.ShardState.{ShardState, ShardView, journalled}
use Rattle.rl_shard.specs.ShardStep.{age_answer, is_journal_full, removes}
use Rattle.rl_records.specs.declared.step.ShardStep.{ShardStep}
use Rattle.rl_records.specs.declared.step.ShardStep.TheVariants as steps
use Rattle.rl_records.specs.declared.step.ShardReply.{ShardReply}
use Rattle.rl_records.specs.declared.step.ShardReply.TheVariants as replies
use Rattle.rl_shard.specs.declared.step.ShardFault.{ShardFault}
use Rattle.rl_shard.specs.declared.step.ShardFault.TheVariants as faults

-- how a shard reports why streams were not read, or not written
abbrev pub fault_of_read : ReadFault → ShardFault
fault_of_read reads.Fault = faults.Fault
fault_of_read reads.Damaged = faults.Damaged
fault_of_read reads.Memory = faults.Memory

abbrev pub fault_of_flush : FlushFault → ShardFault
fault_of_flush flushes.Fault = faults.Fault
fault_of_flush flushes.NumbersSpent = faults.NumbersSpent
fault_of_flush flushes.Memory = faults.Memory

abbrev pub fault_of_rewrite : RewriteFault → ShardFault
fault_of_rewrite rewrites.Fault = faults.Fault
fault_of_rewrite rewrites.Damaged = faults.Damaged
fault_of_rewrite rewrites.NumbersSpent = faults.NumbersSpent
fault_of_rewrite rewrites.Memory = faults.Memory

-- a window without room for what is held: the store showed more than the shard may hold
abbrev pub fault_of_windows : AddFault → ShardFault
fault_of_windows adds.Full = faults.Damaged
fault_of_windows adds.Memory = faults.Memory

-- what becomes of an entry that streams refused
abbrev pub refused : AddRefusal → Result ShardReply ShardFault
refused (adding.Expired horizon) = Ok (replies.Expired horizon)
refused (adding.TooFarBehind newest) = Ok (replies.TooFarBehind newest)
refused adding.Full = Ok replies.Full
refused (adding.Read fault) = Err (fault_of_read fault)

-- whether a step may meet a fault: one that reads meets the store's and damage, one that writes meets the store's and that the
-- numbers are spent, one that removes entries does both, and each meets a full journal and a lack of memory
abbrev pub may_meet : ShardStep → ShardFault → Bool
may_meet step faults.JournalFull = true
may_meet step faults.Memory = true
may_meet (steps.Push entry) faults.Fault = true
may_meet (steps.Push entry) faults.Damaged = true
may_meet steps.Flush faults.Fault = true
may_meet steps.Flush faults.NumbersSpent = true
may_meet (steps.Delete deletion) faults.Fault = true
may_meet (steps.Delete deletion) faults.Damaged = true
may_meet (steps.Cancel id) faults.Fault = true
may_meet (steps.Cancel id) faults.Damaged = true
may_meet (steps.Process id now) faults.Fault = true
may_meet (steps.Process id now) faults.Damaged = true
may_meet (steps.Process id now) faults.NumbersSpent = true
may_meet (steps.Retain now) faults.Fault = true
may_meet (steps.Retain now) faults.Damaged = true
may_meet (steps.Retain now) faults.NumbersSpent = true
may_meet (steps.Collect slot terms t) faults.Fault = true
may_meet (steps.Collect slot terms t) faults.Damaged = true
may_meet step other = false

-- a fault that removing entries may meet
abbrev pub IsOfRemoving : ShardFault → Type 0
IsOfRemoving faults.JournalFull = ⊥
IsOfRemoving other = Unit {0}

-- the store of a shard is honest
abbrev pub IsHonest : ShardView → Type 0
IsHonest shard = shard.streams.seen.honest ≡ true

-- the faults of a store after a step that was refused so: one more where the device failed
abbrev pub step_faults : ShardFault → ℕ → ℕ
step_faults faults.Fault counted = with_fault counted
step_faults _ counted = counted

-- and after what was answered so
abbrev pub after_step : {A : Type 0} → Result A ShardFault → ℕ → ℕ
after_step (Ok _) counted = counted
after_step (Err fault) counted = step_faults fault counted

-- damage is met over a store that is not honest; the numbers are spent where only the greatest is left
abbrev pub IsOfStore : StreamsView → ShardFault → StreamsView → Type 0
IsOfStore old faults.Damaged new = old.seen.honest ≡ false
IsOfStore old faults.NumbersSpent new = new.next ≡ greatest
IsOfStore old _ new = Unit {0}

-- where a step may meet a fault of its store, since it is not decided before that is asked: an entry is not too old, a
-- request may be received, or is received where it is cancelled, and entries are to be removed
abbrev pub IsUndecided : Limits → ShardState → ShardStep → Type 0
IsUndecided limits shard (steps.Push entry) = age_answer limits shard entry ≡ None
IsUndecided limits shard (steps.Delete deletion) = IsReceiveFault shard.requests deletion.id (asked deletion) None
IsUndecided limits shard (steps.Cancel id) = IsSome (received_at shard.requests id)
IsUndecided limits shard (steps.Process id now) = IsSome (removes limits shard (steps.Process id now))
IsUndecided limits shard (steps.Retain now) = IsSome (removes limits shard (steps.Retain now))
IsUndecided limits shard step = Unit {0}

-- a fault that is met while a step is decided: not that the journal is full, nor a lack of memory, which may be for the record
abbrev pub IsOfDeciding : ShardFault → Type 0
IsOfDeciding faults.JournalFull = ⊥
IsOfDeciding faults.Memory = ⊥
IsOfDeciding other = Unit {0}

-- a step that met the first view and left the second may have been refused so: for its journal exactly where that is full, and
-- else where it is not decided before; its store met exactly the fault that is answered
pub record MayCome (old : ShardView) (step : ShardStep) (fault : ShardFault) (new : ShardView) : Type 0 where
  pub meets : IsTrue (may_meet step fault)
  pub full : fault ≡ faults.JournalFull → IsTrue (is_journal_full (journalled old))
  pub undecided : IsOfDeciding fault → IsUndecided (journalled old).limits (journalled old).state step
  pub counted : new.streams.seen.faults ≡ step_faults fault old.streams.seen.faults
  pub of_store : IsOfStore old.streams fault new.streams

-- a cut leaves no head, a flush no sealed part that the store does not have
abbrev pub IsWritten : ShardStep → StreamsView → Type 0
IsWritten steps.Cut new = new.loose ≡ 0
IsWritten steps.Flush new = new.unwritten ≡ 0
IsWritten step new = Unit {0}

-- it gives no number, and leaves what the store has
abbrev pub GivesNone : StreamsView → StreamsView → Type 0
GivesNone old new = (new.next ≡ old.next) × (new.seen.blobs ≡ old.seen.blobs)

-- what a step makes of the numbers with any answer: a flush gives one to each part that it writes, and one that neither flushes nor
-- removes gives none, and leaves what the store has
abbrev pub Gives : ShardStep → StreamsView → StreamsView → Type 0
Gives steps.Flush old new = new.next + new.unwritten ≡ old.next + old.unwritten
Gives (steps.Process id now) old new = old.next ≤ new.next
Gives (steps.Retain now) old new = old.next ≤ new.next
Gives step old new = GivesNone old new

-- what stood in the store under other numbers than those that were given still does, and its device did not fail
abbrev pub LeavesStore : StreamsView → StreamsView → Type 0
LeavesStore old new = Grown old.seen old.next new.next new.seen × (new.seen.faults ≡ old.seen.faults)

-- where entries are removed, what is left follows from bytes with the digests that were kept
abbrev pub IsRemoved : Option (Entry → Bool) → StreamsView → StreamsView → Type 0
IsRemoved removed old new = MatchOption removed (LeavesStore old new) (λ covers. AreLeftIn covers old.rows new.rows × Rewrites old new)

-- what is decided was done, over any store
pub record IsDone (limits : Limits) (shard : ShardState) (step : ShardStep) (old new : StreamsView) : Type 0 where
  pub written : IsWritten step new
  pub left : IsRemoved (removes limits shard step) old new

-- what any step leaves of the store: it is as honest as it was, and faults and numbers never go down
pub record Stored (old new : StreamsView) : Type 0 where
  pub honest : new.seen.honest ≡ old.seen.honest
  pub faults : FaultsRise old.seen.faults new.seen.faults
  pub next : old.next ≤ new.next
