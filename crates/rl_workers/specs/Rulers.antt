-- Rulers: what their locks keep, and what their calls add to a pass.
use Rattle.std.specs.Prelude.{◌≡◌, ◌⊎◌, ℕ, ◌≤◌, ◌<◌, nat_le, nat_lt, ◌==◌, ◌&&◌, Bool, false, if◌then◌else◌, List, [], ◌∷◌, ◌++◌, map, length, Result, Ok, Err}
use Rattle.std.specs.List.{list_all}
use Rattle.rl_labels.specs.declared.limits.Limits.{Limits}
use Rattle.rl_records.specs.declared.step.ShardReply.{ShardReply}
use Rattle.rl_records.specs.declared.step.ShardStep.{ShardStep}
use Rattle.rl_rules.specs.declared.rule.Group.{Group}
use Rattle.rl_shard.specs.ShardState.{ShardState}
use Rattle.rl_shard.specs.ShardStep.{IsAnswered}
use Rattle.rl_world.specs.ShardAnswers.{most_in_shard}
use Rattle.rl_world.specs.WorldState.{BookState}
use Rattle.rl_world.specs.declared.step.Committed.{Committed}
use Rattle.rl_audit.specs.Merged.{note_of}
use Rattle.rl_workers.specs.Receipts.{PassView, HasKept, HasReceived, receipts_of}
use Rattle.rl_workers.specs.Seats.{IsCommitted, IsNotEvaluated}
use Rattle.rl_workers.specs.declared.fault.AllFault.{AllFault}
use Rattle.rl_workers.specs.declared.fault.AllFault.TheVariants as faults
use Rattle.rl_workers.specs.declared.fault.EvaluationFault.{EvaluationFault}
use Rattle.rl_workers.specs.declared.fault.EvaluationFault.TheVariants as evaluations
use Rattle.rl_workers.specs.declared.fault.OpenFault.{OpenFault}
use Rattle.rl_workers.specs.declared.fault.OpenFault.TheVariants as opens
use Rattle.rl_audit.specs.declared.receipt.Note.TheVariants as notes

-- how many shards, groups and callers a ruler has
pub record RulerView : Type 0 where
  pub shards : ℕ
  pub groups : ℕ
  pub callers : ℕ

-- the numbers of shards, callers, groups and rules are those that there may be, and there is a list of sinks for each group, which are
-- as few as may be
abbrev pub counts_fit : (shards callers : ℕ) → List Group → (lists : ℕ) → (are_few : Bool) → Bool
counts_fit shards callers groups lists are_few =
    if nat_lt shards 1 then false
    else (if nat_lt 16 shards then false
    else (if nat_lt callers 1 then false
    else (if nat_lt 64 callers then false
    else (if nat_lt 64 (length groups) then false
    else (if lists == length groups then list_all (λ group. nat_le (length group.rules) 256) groups && are_few
    else false)))))

-- why a ruler is not opened, if so
abbrev pub open_fault : (fits : Bool) → OpenFault
open_fault fits = if fits then opens.Memory else opens.BadCount

-- some shard answered a step so
pub record IsAnsweredIn (step : ShardStep) (reply : ShardReply) : Type 0 where
  pub limits : Limits
  pub old : ShardState
  pub new : ShardState
  pub few : limits.entries ≤ most_in_shard
  pub answered : IsAnswered limits old step reply new

-- one shard after the other decided a step, up to the first that did not: a pass has a receipt of each that did
pub record AreDecidedBy (count : ℕ) (step : ShardStep) (old : PassView) (replies : List ShardReply) (new : PassView) : Type 0 where
  pub answers : List (ℕ × ShardReply)
  pub replied : map (λ answer. answer.1) answers ≡ replies
  pub each : length answers ≡ count
  pub received : HasReceived old (receipts_of 0 step answers) new

abbrev pub AreDecided : (shards : ℕ) → ShardStep → PassView → Result (List ShardReply) AllFault → PassView → Type 0
AreDecided shards step old (Ok replies) new = AreDecidedBy shards step old replies new
AreDecided shards step old (Err (faults.Partly done _)) new = (done < shards) × (replies : List ShardReply) × AreDecidedBy done step old replies new
AreDecided shards step old (Err faults.Memory) new = HasKept old new

-- a book of some state was evaluated: a pass has the receipts of the questions, and the note of the evaluation
pub record IsEvaluated (shards group t : ℕ) (old : PassView) (made : Committed) (new : PassView) : Type 0 where
  pub book : BookState
  pub book_after : BookState
  pub of_shards : book.shards ≡ shards
  pub pass : PassView
  pub committed : IsCommitted t book old made book_after pass
  pub receipts : new.receipts ≡ pass.receipts
  pub notes : new.notes ≡ old.notes ++ note_of group made ∷ []

abbrev pub IsLeft : EvaluationFault → (shards t : ℕ) → PassView → PassView → Type 0
IsLeft fault shards t old new = (book : BookState) × (book.shards ≡ shards) × IsNotEvaluated fault t book old book new

abbrev pub IsRefused : EvaluationFault → (shards t : ℕ) → PassView → PassView → Type 0
IsRefused evaluations.NoSuch shards t old new = HasKept old new
IsRefused evaluations.Memory shards t old new = HasKept old new ⊎ IsLeft evaluations.Memory shards t old new
IsRefused fault shards t old new = IsLeft fault shards t old new

-- a group was edited: the note of it is at some index of its history
abbrev pub IsNoted : (group : ℕ) → Group → PassView → PassView → Type 0
IsNoted group to old new = (new.receipts ≡ old.receipts) × (index : ℕ) × (new.notes ≡ old.notes ++ notes.Edited group index to ∷ [])
