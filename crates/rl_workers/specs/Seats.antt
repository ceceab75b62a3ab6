-- Evaluations and edits of a book, with what a pass has of them.
use Rattle.std.specs.Prelude.{◌≡◌, ◌⊎◌, ℕ, ◌+◌, ◌<◌, List, ◌++◌, map, length, None, Some, true, false}
use Rattle.rl_aggregate.specs.declared.partial.Partial.{Partial}
use Rattle.rl_labels.specs.Name.{is_text}
use Rattle.rl_plain.specs.declared.refusal.OrMemory.{OrMemory}
use Rattle.rl_plain.specs.declared.refusal.OrMemory.TheVariants as errors
use Rattle.rl_records.specs.declared.step.ShardReply.TheVariants as replies
use Rattle.rl_records.specs.declared.step.ShardStep.TheVariants as steps
use Rattle.rl_rules.specs.declared.rule.Group.{Group}
use Rattle.rl_world.specs.BookCalls.{moment_of, with_history}
use Rattle.rl_world.specs.Evaluating.{group_terms}
use Rattle.rl_world.specs.History.{alerts_of, begin_fault, committed, gathered, is_session_full}
use Rattle.rl_world.specs.Kept.{evaluation_from}
use Rattle.rl_world.specs.WorldState.{BookState}
use Rattle.rl_world.specs.declared.fault.BookFault.{BookFault}
use Rattle.rl_world.specs.declared.fault.BookFault.TheVariants as book_faults
use Rattle.rl_world.specs.declared.opened.Gathered.{Gathered}
use Rattle.rl_world.specs.declared.step.Committed.{Committed}
use Rattle.rl_audit.specs.Driven.{opened_with, with_open}
use Rattle.rl_audit.specs.Merged.{receipt_of}
use Rattle.rl_workers.specs.Receipts.{PassView, HasAdded, receipts_asked}
use Rattle.rl_workers.specs.declared.fault.EditFault.{EditFault}
use Rattle.rl_workers.specs.declared.fault.EditFault.TheVariants as edits
use Rattle.rl_workers.specs.declared.fault.EvaluationFault.{EvaluationFault}
use Rattle.rl_workers.specs.declared.fault.EvaluationFault.TheVariants as evaluations

-- a book was given a shard's answer, and a pass the receipt of the question
pub record IsGathered (number : ℕ) (book : BookState) (pass : PassView) (book_after : BookState) (pass_after : PassView) : Type 0 where
  pub answer : Gathered (List Partial)
  pub t : ℕ
  pub moment : moment_of book.history ≡ Some t
  pub kept : book_after ≡ with_history book (gathered book.history number answer.place answer.shown)
  pub received : HasAdded pass (receipt_of number answer.place (record { step = steps.Collect book.slot (group_terms book.history.group) t; reply = replies.Collected answer.shown })) pass_after

-- a book opened an evaluation at a moment, and the first shards answered
pub record AreGathered (count t : ℕ) (book : BookState) (pass : PassView) (book_after : BookState) (pass_after : PassView) : Type 0 where
  pub later : begin_fault book.history t ≡ None
  pub answers : List (Gathered (List Partial))
  pub each : length answers ≡ count
  pub kept : book_after ≡ with_history book (with_open (opened_with book.shards t answers) book.history)
  pub receipts : pass_after.receipts ≡ pass.receipts ++ receipts_asked 0 book.slot (group_terms book.history.group) t answers
  pub notes : pass_after.notes ≡ pass.notes
  pub receipt_room : pass_after.receipt_room + count ≡ pass.receipt_room
  pub note_room : pass_after.note_room ≡ pass.note_room

-- when an evaluation is refused so, after so many shards answered
abbrev pub IsRefusedAfter : EvaluationFault → BookState → (t count : ℕ) → Type 0
IsRefusedAfter evaluations.NoSuch book t count = ⊥
IsRefusedAfter (evaluations.MomentNotLater last) book t count = (begin_fault book.history t ≡ Some (book_faults.MomentNotLater last)) × (count ≡ 0)
IsRefusedAfter (evaluations.AtShard shard _) book t count = (begin_fault book.history t ≡ None) × (count ≡ shard) × (shard < book.shards)
IsRefusedAfter evaluations.SessionFull book t count = (begin_fault book.history t ≡ None) × (is_session_full book.history ≡ true) × (count ≡ book.shards)
IsRefusedAfter evaluations.Memory book t count = (begin_fault book.history t ≡ None) × ((count ≡ 0) ⊎ (count ≡ book.shards))

-- why a book that has none open did not begin an evaluation, if so
abbrev pub IsNotBegun : EvaluationFault → BookState → (t : ℕ) → Type 0
IsNotBegun (evaluations.MomentNotLater last) book t = begin_fault book.history t ≡ Some (book_faults.MomentNotLater last)
IsNotBegun evaluations.Memory book t = begin_fault book.history t ≡ None
IsNotBegun fault book t = ⊥

-- the shards were not all asked: the evaluation was not opened, or a shard did not answer
abbrev pub IsNotGathered : EvaluationFault → (t : ℕ) → BookState → PassView → BookState → PassView → Type 0
IsNotGathered (evaluations.AtShard shard _) t book pass book_after pass_after = (shard < book.shards) × AreGathered shard t book pass book_after pass_after
IsNotGathered fault t book pass book_after pass_after = IsNotBegun fault book t × (book_after ≡ book) × (pass_after ≡ pass)

-- a group was evaluated on what all shards answered, and a pass has the receipt of each question
pub record IsCommitted (t : ℕ) (book : BookState) (pass : PassView) (made : Committed) (book_after : BookState) (pass_after : PassView) : Type 0 where
  pub answers : List (Gathered (List Partial))
  pub each : length answers ≡ book.shards
  pub number : made.number ≡ length book.history.evaluations
  pub evaluation : made.evaluation ≡ evaluation_from book.history.group (alerts_of book.history) (record { t = t; gathered = map Some answers })
  pub places : made.evaluation.places ≡ map (λ answer. answer.place) answers
  pub history : book_after.history ≡ committed book.history made.evaluation
  pub receipts : pass_after.receipts ≡ pass.receipts ++ receipts_asked 0 book.slot (group_terms book.history.group) t answers
  pub notes : pass_after.notes ≡ pass.notes

-- it was not, and the evaluation that was opened may be open: after a pass's last receipt the book is as it was but for that
pub record IsLeftOpen (fault : EvaluationFault) (t : ℕ) (book : BookState) (pass : PassView) (book_after : BookState) (pass_after : PassView) : Type 0 where
  pub answers : List (Gathered (List Partial))
  pub refused : IsRefusedAfter fault book t (length answers)
  pub kept : (book_after ≡ book) ⊎ (book_after ≡ with_history book (with_open (opened_with book.shards t answers) book.history))
  pub receipts : pass_after.receipts ≡ pass.receipts ++ receipts_asked 0 book.slot (group_terms book.history.group) t answers
  pub notes : pass_after.notes ≡ pass.notes

-- it was not: the book is as it was, and a pass has the receipt of each question that a shard answered
pub record IsNotEvaluated (fault : EvaluationFault) (t : ℕ) (book : BookState) (pass : PassView) (book_after : BookState) (pass_after : PassView) : Type 0 where
  pub answers : List (Gathered (List Partial))
  pub refused : IsRefusedAfter fault book t (length answers)
  pub kept : book_after ≡ book
  pub receipts : pass_after.receipts ≡ pass.receipts ++ receipts_asked 0 book.slot (group_terms book.history.group) t answers
  pub notes : pass_after.notes ≡ pass.notes

-- why a book that has no evaluation open may not begin one, and what that is called
abbrev pub MayNotBegin : OrMemory BookFault → Type 0
MayNotBegin error = ((last : ℕ) × (error ≡ errors.Fault (book_faults.MomentNotLater last))) ⊎ (error ≡ errors.Memory)

abbrev pub late_fault : BookFault → EvaluationFault
late_fault (book_faults.MomentNotLater last) = evaluations.MomentNotLater last
late_fault fault = evaluations.Memory

abbrev pub refusal_to_begin : OrMemory BookFault → EvaluationFault
refusal_to_begin (errors.Fault fault) = late_fault fault
refusal_to_begin errors.Memory = evaluations.Memory

-- why what is complete may not be committed, and what that is called
abbrev pub MayNotCommit : OrMemory BookFault → Type 0
MayNotCommit error = (error ≡ errors.Fault book_faults.SessionFull) ⊎ (error ≡ errors.Memory)

abbrev pub refusal_to_commit : OrMemory BookFault → EvaluationFault
refusal_to_commit (errors.Fault fault) = evaluations.SessionFull
refusal_to_commit errors.Memory = evaluations.Memory

-- when an edit is refused so: the name comes first
abbrev pub IsNotEdited : EditFault → Group → BookState → Type 0
IsNotEdited edits.NoSuch to book = is_text to.name book.history.group.name ≡ false
IsNotEdited edits.SessionFull to book = (is_text to.name book.history.group.name ≡ true) × (is_session_full book.history ≡ true)
IsNotEdited edits.Memory to book = is_text to.name book.history.group.name ≡ true
