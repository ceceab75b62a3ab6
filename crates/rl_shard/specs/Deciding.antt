-- What becomes of a step, by what a shard is without its journal.
use Rattle.std.specs.Prelude.{◌≡◌, ◌+◌, ◌≤◌, ℕ, true, IsTrue, List, Result, IfErr, IfOk, OnOk}
use Rattle.rl_chunks.specs.StoreState.{greatest}
use Rattle.rl_parts.specs.StoreUse.{Grown}
use Rattle.rl_query.specs.declared.query.Term.{Term}
use Rattle.rl_slots.specs.Slots.{collected_in, term_count, IsLiveIn}
use Rattle.rl_streams.specs.StreamsState.{StreamsView}
use Rattle.rl_shard.specs.Collecting.{AreRead}
use Rattle.rl_shard.specs.Live.{collected_after, visits_due, IsAnsweredLive, IsOfWindows, IsPush, Keeps}
use Rattle.rl_shard.specs.ShardFault.{Gives, IsDone, IsOfStore, Stored, may_meet, step_faults}
use Rattle.rl_shard.specs.ShardState.{PartsView, state_of, visible}
use Rattle.rl_shard.specs.ShardStep.{stepped, IsAnswered, IsReply}
use Rattle.rl_records.specs.declared.step.ShardStep.{ShardStep}
use Rattle.rl_records.specs.declared.step.ShardReply.{ShardReply}
use Rattle.rl_shard.specs.declared.step.ShardFault.{ShardFault}
use Rattle.rl_shard.specs.declared.step.ShardFault.TheVariants as faults

-- what any step leaves of the streams: their limits, a next number of 64 bits, and their store
pub record Lasts (old new : StreamsView) : Type 0 where
  pub limits : new.limits ≡ old.limits
  pub numbers : new.next ≤ greatest
  pub stored : Stored old new

-- a step that is refused so changes nothing that is promised, and its store met exactly this fault
pub record Refuses (old : PartsView) (fault : ShardFault) (new : PartsView) : Type 0 where
  pub kept : state_of new ≡ state_of old
  pub counted : new.streams.seen.faults ≡ step_faults fault old.streams.seen.faults
  pub of_store : IsOfStore old.streams fault new.streams
  pub grown : Grown old.streams.seen old.streams.next (new.streams.next + 1) new.streams.seen

-- what becomes of a step: with any answer, where it is refused, where it is decided over any store, and then over an honest one
pub record Decides (step : ShardStep) (old : PartsView) (result : Result ShardReply ShardFault) (new : PartsView) : Type 0 where
  pub lasts : Lasts old.streams new.streams
  pub gives : Gives step old.streams new.streams
  pub meets : IfErr result (λ fault. IsTrue (may_meet step fault) × (fault ≡ faults.JournalFull → ⊥))
  pub refused : IfErr result (λ fault. Refuses old fault new)
  pub answered : IfOk result (λ reply. IsAnswered old.streams.limits (state_of old) step reply (state_of new))
  pub done : OnOk result (IsDone old.streams.limits (state_of old) step old.streams new.streams)
  pub read : IfOk result (AreRead old.streams old.requests old.slots step)
  pub keeps : (number : ℕ) (terms : List Term) (u : ℕ) → Keeps step result number u → IsLiveIn number terms u old.slots → IsLiveIn number terms u new.slots
  pub live : OnOk result (IsAnsweredLive step new.slots)
  pub unread : IsOfWindows step old.slots → (new.streams ≡ old.streams) × (new.meter.runs ≡ old.meter.runs)
  pub runs : IsPush step → new.meter.runs ≤ old.meter.runs + term_count old.slots
  pub collected : (number : ℕ) → collected_in number new.slots ≡ collected_after step result number old.slots
  pub visits : old.streams.seen.honest ≡ true → IsOfWindows step old.slots → new.meter.visits ≤ old.meter.visits + visits_due (visible (state_of old)) step old.slots
  pub decided : old.streams.seen.honest ≡ true → IfOk result (λ reply. IsReply old.streams.limits (state_of old) step reply)
  pub changed : old.streams.seen.honest ≡ true → OnOk result (state_of new ≡ stepped old.streams.limits (state_of old) step)
