-- What a world answers to a step, and what it is afterwards.
use Rattle.std.specs.Prelude.{◌≡◌, ◌⊎◌, ℕ, Bool, true, false, IsTrue, ◌&&◌, List, [], ◌∷◌, length, Option, None, Some, option_map, slice_get, slice_set, Result, Ok, Err, if◌then◌else◌}
use Rattle.rl_labels.specs.Name.{is_text}
use Rattle.rl_labels.specs.declared.entry.Entry.{Entry}
use Rattle.rl_query.specs.declared.query.Term.{Term}
use Rattle.rl_aggregate.specs.declared.partial.Partial.{Partial}
use Rattle.rl_shard.specs.ShardState.{Journalled, visible}
use Rattle.rl_shard.specs.ShardStep.{recorded, is_journal_full, IsReply}
use Rattle.rl_records.specs.declared.step.ShardStep.{ShardStep}
use Rattle.rl_records.specs.declared.step.ShardStep.TheVariants as shard_steps
use Rattle.rl_records.specs.declared.step.ShardReply.{ShardReply}
use Rattle.rl_shard.specs.declared.step.ShardFault.{ShardFault}
use Rattle.rl_shard.specs.declared.step.ShardFault.TheVariants as shard_faults
use Rattle.rl_rules.specs.declared.alert.Alert.{Alert}
use Rattle.rl_rules.specs.declared.rule.Group.{Group}
use Rattle.rl_rules.specs.declared.evaluation.Evaluation.{Evaluation}
use Rattle.rl_world.specs.Evaluating.{group_terms, evaluation_of}
use Rattle.rl_world.specs.Kept.{evaluation_from, partials_of}
use Rattle.rl_world.specs.History.{History, alerts_of, begin_fault, gather_fault, commit_fault, abandon_fault, edit_fault, begun, gathered, committed, abandoned, edited}
use Rattle.rl_world.specs.WorldState.{WorldState}
use Rattle.rl_world.specs.declared.opened.OpenEvaluation.{OpenEvaluation}
use Rattle.rl_plain.specs.declared.refusal.OrMemory.{OrMemory}
use Rattle.rl_world.specs.declared.fault.BookFault.{BookFault}
use Rattle.rl_plain.specs.declared.refusal.OrMemory.TheVariants as errors
use Rattle.rl_world.specs.declared.fault.Refusal.{Refusal}
use Rattle.rl_world.specs.declared.fault.Refusal.TheVariants as refusals
use Rattle.rl_world.specs.declared.step.Committed.{Committed}
use Rattle.rl_world.specs.declared.step.Step.{Step}
use Rattle.rl_world.specs.declared.step.Step.TheVariants as steps
use Rattle.rl_world.specs.declared.step.Reply.{Reply}
use Rattle.rl_world.specs.declared.step.Reply.TheVariants as replies

-- what an open evaluation keeps of the entries that a shard shows, and what it makes of all that it kept
pub record Keeping (X : Type 0) : Type 0 where
  pub keep : List Entry → List Term → ℕ → X
  pub evaluate : Group → List (List Alert) → OpenEvaluation X → Evaluation

-- the lists themselves, and LogQL from scratch on them
abbrev pub lists : Keeping (List Entry)
lists = record { keep = λ entries terms t. entries; evaluate = evaluation_of }

-- their partials, merged
abbrev pub partials : Keeping (List Partial)
partials = record { keep = partials_of; evaluate = evaluation_from }

-- a number that nothing has is refused first
abbrev pub known : {A : Type 0} → Option A → (A → Option Refusal) → Option Refusal
known None refusal = Some refusals.NoSuch
known (Some item) refusal = refusal item

abbrev pub or_else : Option Refusal → Option Refusal → Option Refusal
or_else None next = next
or_else (Some refusal) next = Some refusal

abbrev pub journal_refusal : Journalled → Option Refusal
journal_refusal shard = if is_journal_full shard then Some refusals.JournalFull else None

-- how a world reports what a shard or a book refused
abbrev pub refusal_of_shard : ShardFault → Refusal
refusal_of_shard shard_faults.JournalFull = refusals.JournalFull
refusal_of_shard shard_faults.Fault = refusals.Fault
refusal_of_shard shard_faults.Damaged = refusals.Damaged
refusal_of_shard shard_faults.NumbersSpent = refusals.NumbersSpent
refusal_of_shard shard_faults.Memory = refusals.Memory

abbrev pub refusal_of_book : OrMemory BookFault → Refusal
refusal_of_book (errors.Fault fault) = refusals.Book fault
refusal_of_book errors.Memory = refusals.Memory

-- whether a step may lack memory: each but Abandon
abbrev pub may_want : Step → Bool
may_want (steps.Abandon group) = false
may_want step = true

-- whether a step asks a shard
abbrev pub asks_shard : Step → Bool
asks_shard (steps.Shard number step) = true
asks_shard (steps.Gather group number) = true
asks_shard step = false

-- a fault of a shard's store
abbrev pub is_store_refusal : Refusal → Bool
is_store_refusal refusals.Fault = true
is_store_refusal refusals.Damaged = true
is_store_refusal refusals.NumbersSpent = true
is_store_refusal refusal = false

-- what a step may come to nothing for where no refusal applies: lack of memory, or the store of the shard that it asks
abbrev pub may_fail : Step → Refusal → Bool
may_fail step refusals.Memory = may_want step
may_fail step refusal = asks_shard step && is_store_refusal refusal

-- what a call of one kind answers, as a reply
abbrev pub as_reply : {A : Type 0} → (A → Reply) → Result A Refusal → Reply
as_reply reply (Ok answer) = reply answer
as_reply reply (Err refusal) = replies.Refused refusal

-- what holds of the refusal, where the reply is one
abbrev pub IfRefused : Reply → (Refusal → Type 0) → Type 0
IfRefused (replies.Refused refusal) P = P refusal
IfRefused reply P = Unit {0}

module _ {X : Type 0} where
  -- a group is edited under its own name; another is no such group
  abbrev pub edit_refusal : Group → History X → Option Refusal
  edit_refusal to history = if is_text to.name history.group.name then option_map refusals.Book (edit_fault history) else Some refusals.NoSuch

  -- the refusal of a step that comes before its work, if one does: the first that applies
  abbrev pub refusal_of : WorldState X → Step → Option Refusal
  refusal_of world (steps.Shard number step) = known (slice_get world.shards number) journal_refusal
  refusal_of world (steps.Edit group to) = known (slice_get world.histories group) (edit_refusal to)
  refusal_of world (steps.Begin group t) = known (slice_get world.histories group) (λ history. option_map refusals.Book (begin_fault history t))
  refusal_of world (steps.Gather group number) = known (slice_get world.histories group) (λ history. known (slice_get world.shards number) (λ shard. or_else (option_map refusals.Book (gather_fault history number)) (journal_refusal shard)))
  refusal_of world (steps.Commit group) = known (slice_get world.histories group) (λ history. option_map refusals.Book (commit_fault history))
  refusal_of world (steps.Abandon group) = known (slice_get world.histories group) (λ history. option_map refusals.Book (abandon_fault history))
  refusal_of world (steps.CatchUp group) = known (slice_get world.histories group) (λ history. None)

  -- it is the first refusal that applies; where none does, the step may come to nothing for it
  abbrev pub MayRefuse : WorldState X → Step → Refusal → Type 0
  MayRefuse world step refusal = (refusal_of world step ≡ Some refusal) ⊎ ((refusal_of world step ≡ None) × IsTrue (may_fail step refusal))

  -- a step that is refused counts as no step
  abbrev pub IsRefused : WorldState X → Step → Refusal → WorldState X → Type 0
  IsRefused old step refusal new = MayRefuse old step refusal × (new ≡ old)

  abbrev pub with_shard : WorldState X → ℕ → Journalled → WorldState X
  with_shard world number shard = record { shards = slice_set world.shards number shard; histories = world.histories }

  abbrev pub with_history : WorldState X → ℕ → History X → WorldState X
  with_history world group history = record { shards = world.shards; histories = slice_set world.histories group history }

  -- a shard decides a step, which makes one record; the place is the number of records before
  pub record ShardTurn (old : WorldState X) (number : ℕ) (step : ShardStep) (place : ℕ) (reply : ShardReply) (new : WorldState X) : Type 0 where
    pub shard : Journalled
    pub there : slice_get old.shards number ≡ Some shard
    pub place_is : place ≡ shard.records
    pub reply_is : IsReply shard.limits shard.state step reply
    pub after : new ≡ with_shard old number (recorded shard step)

  -- a group's history changes, and nothing else
  pub record HistoryTurn (change : History X → History X) (old : WorldState X) (group : ℕ) (new : WorldState X) : Type 0 where
    pub history : History X
    pub there : slice_get old.histories group ≡ Some history
    pub after : new ≡ with_history old group (change history)

  -- a group is edited; the index is the number of items before
  pub record EditTurn (old : WorldState X) (group : ℕ) (to : Group) (place : ℕ) (new : WorldState X) : Type 0 where
    pub history : History X
    pub there : slice_get old.histories group ≡ Some history
    pub place_is : place ≡ length history.items
    pub after : new ≡ with_history old group (edited history to)

  -- a shard is asked for an open evaluation: its journal has the question, and the evaluation keeps what the shard shows now
  pub record GatherTurn (keeping : Keeping X) (old : WorldState X) (group number place : ℕ) (new : WorldState X) : Type 0 where
    pub history : History X
    pub there : slice_get old.histories group ≡ Some history
    pub opened : OpenEvaluation X
    pub open_is : history.opened ≡ Some opened
    pub shard : Journalled
    pub shard_there : slice_get old.shards number ≡ Some shard
    pub place_is : place ≡ shard.records
    pub after : new ≡ with_history (with_shard old number (recorded shard (shard_steps.Collect group (group_terms history.group) opened.t))) group (gathered history number place (keeping.keep (visible shard.state) (group_terms history.group) opened.t))

  -- a group closes its evaluation, whose number is counted from 0
  pub record CommitTurn (keeping : Keeping X) (old : WorldState X) (group : ℕ) (answer : Committed) (new : WorldState X) : Type 0 where
    pub history : History X
    pub there : slice_get old.histories group ≡ Some history
    pub opened : OpenEvaluation X
    pub open_is : history.opened ≡ Some opened
    pub number_is : answer.number ≡ length history.evaluations
    pub evaluation_is : answer.evaluation ≡ keeping.evaluate history.group (alerts_of history) opened
    pub after : new ≡ with_history old group (committed history answer.evaluation)

  -- a step that is not refused; no other reply comes
  abbrev pub Turn : Keeping X → WorldState X → Step → Reply → WorldState X → Type 0
  Turn keeping old (steps.Shard number step) (replies.Decided place reply) new = ShardTurn old number step place reply new
  Turn keeping old (steps.Edit group to) (replies.Edited place) new = EditTurn old group to place new
  Turn keeping old (steps.Begin group t) replies.Begun new = HistoryTurn (λ history. begun (length old.shards) history t) old group new
  Turn keeping old (steps.Gather group number) (replies.Gathered place) new = GatherTurn keeping old group number place new
  Turn keeping old (steps.Commit group) (replies.Committed answer) new = CommitTurn keeping old group answer new
  Turn keeping old (steps.Abandon group) replies.Abandoned new = HistoryTurn abandoned old group new
  Turn keeping old (steps.CatchUp group) (replies.CaughtUp behind) new = HistoryTurn (λ history. history) old group new
  Turn keeping old step reply new = ⊥

  -- a step that is refused counts as no step; any other reply comes only where no refusal does
  abbrev pub WorldStep : Keeping X → WorldState X → Step → Reply → WorldState X → Type 0
  WorldStep keeping old step (replies.Refused refusal) new = IsRefused old step refusal new
  WorldStep keeping old step reply new = (refusal_of old step ≡ None) × Turn keeping old step reply new

  -- step after step
  abbrev pub Replay : Keeping X → WorldState X → List Step → List Reply → WorldState X → Type 0
  Replay keeping old [] [] new = new ≡ old
  Replay keeping old (step ∷ steps) (reply ∷ replies) new = (mid : WorldState X) × WorldStep keeping old step reply mid × Replay keeping mid steps replies new
  Replay keeping old [] (reply ∷ replies) new = ⊥
  Replay keeping old (step ∷ steps) [] new = ⊥
