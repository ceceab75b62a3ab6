-- What a pass holds, and what calls add to it.
use Rattle.std.specs.Prelude.{◌≡◌, ℕ, suc, ◌+◌, List, [], ◌∷◌, ◌++◌}
use Rattle.rl_audit.specs.Merged.{receipt_of}
use Rattle.rl_aggregate.specs.declared.partial.Partial.{Partial}
use Rattle.rl_query.specs.declared.query.Term.{Term}
use Rattle.rl_records.specs.declared.step.ShardReply.{ShardReply}
use Rattle.rl_records.specs.declared.step.ShardReply.TheVariants as replies
use Rattle.rl_records.specs.declared.step.ShardStep.{ShardStep}
use Rattle.rl_records.specs.declared.step.ShardStep.TheVariants as steps
use Rattle.rl_world.specs.declared.opened.Gathered.{Gathered}
use Rattle.rl_audit.specs.declared.receipt.Note.{Note}
use Rattle.rl_audit.specs.declared.receipt.Receipt.{Receipt}

-- the receipts and the notes of a caller, and room for more without memory
pub record PassView : Type 0 where
  pub receipts : List Receipt
  pub notes : List Note
  pub receipt_room : ℕ
  pub note_room : ℕ

-- a pass has the receipts and the notes of another, with what room it may have
pub record HasKept (old new : PassView) : Type 0 where
  pub receipts : new.receipts ≡ old.receipts
  pub notes : new.notes ≡ old.notes

-- receipts came to those of a pass, and no note
pub record HasReceived (old : PassView) (more : List Receipt) (new : PassView) : Type 0 where
  pub receipts : new.receipts ≡ old.receipts ++ more
  pub notes : new.notes ≡ old.notes

-- a pass has one receipt more, in the room that it had
pub record HasAdded (old : PassView) (receipt : Receipt) (new : PassView) : Type 0 where
  pub receipts : new.receipts ≡ old.receipts ++ receipt ∷ []
  pub notes : new.notes ≡ old.notes
  pub receipt_room : new.receipt_room + 1 ≡ old.receipt_room
  pub note_room : new.note_room ≡ old.note_room

-- the receipts of a step that shards decided, from one on, each by the place of its record and its reply
abbrev pub receipts_of : (shard : ℕ) → ShardStep → List (ℕ × ShardReply) → List Receipt
receipts_of shard step [] = []
receipts_of shard step ((place, reply) ∷ answers) = receipt_of shard place (record { step = step; reply = reply }) ∷ receipts_of (suc shard) step answers

-- the receipts of the questions that shards answered for an evaluation, from one on
abbrev pub receipts_asked : (shard slot : ℕ) → List Term → (t : ℕ) → List (Gathered (List Partial)) → List Receipt
receipts_asked shard slot terms t [] = []
receipts_asked shard slot terms t (answer ∷ answers) = receipt_of shard answer.place (record { step = steps.Collect slot terms t; reply = replies.Collected answer.shown }) ∷ receipts_asked (suc shard) slot terms t answers
