-- What an evaluation adds to a pass that made room for it.
use Rattle.std.proofs.Common.{◌≡◌, inr, ℕ, List, [], ◌∷◌, ◌++◌, refl, ap, ◌∙◌}
use Rattle.rl_world.specs.WorldState.{BookState}
use Rattle.rl_world.specs.Evaluating.{group_terms}
use Rattle.rl_world.specs.declared.step.Committed.{Committed}
use Rattle.rl_audit.specs.Merged.{note_of}
use Rattle.rl_workers.specs.Receipts.{PassView, HasKept, receipts_asked}
use Rattle.rl_workers.specs.Rulers.{IsEvaluated, IsLeft, IsRefused}
use Rattle.rl_workers.specs.Seats.{IsCommitted, IsNotEvaluated}
use Rattle.rl_workers.specs.declared.fault.EvaluationFault.{EvaluationFault}
use Rattle.rl_workers.specs.declared.fault.EvaluationFault.TheVariants as evaluations
use Rattle.rl_audit.specs.declared.receipt.Receipt.{Receipt}

-- an evaluation that was committed, and is noted
pub evaluated_from : (shards group t : ℕ) (old mid pass new : PassView) (book book_after : BookState) (made : Committed) → book.shards ≡ shards → HasKept old mid → IsCommitted t book mid made book_after pass → new.receipts ≡ pass.receipts → new.notes ≡ pass.notes ++ note_of group made ∷ []
    → IsEvaluated shards group t old made new
evaluated_from shards group t old mid pass new book book_after made of_shards kept done receipts notes =
    let same_notes = done.notes ∙ kept.notes in
    record {
      book = book;
      book_after = book_after;
      of_shards = of_shards;
      pass = pass;
      committed = record {
        answers = done.answers;
        each = done.each;
        number = done.number;
        evaluation = done.evaluation;
        places = done.places;
        history = done.history;
        receipts = done.receipts ∙ ap (λ (rs : List Receipt). rs ++ receipts_asked 0 book.slot (group_terms book.history.group) t done.answers) kept.receipts;
        notes = same_notes;
      };
      receipts = receipts;
      notes = notes ∙ ap (λ ns. ns ++ note_of group made ∷ []) same_notes;
    }

-- one that was refused
left_from : (fault : EvaluationFault) (shards t : ℕ) (old mid new : PassView) (book book_after : BookState) → book.shards ≡ shards → HasKept old mid → IsNotEvaluated fault t book mid book_after new → IsLeft fault shards t old new
left_from fault shards t old mid new book book_after of_shards kept left = (
  book,
  of_shards,
  record {
    answers = left.answers;
    refused = left.refused;
    kept = refl;
    receipts = left.receipts ∙ ap (λ (rs : List Receipt). rs ++ receipts_asked 0 book.slot (group_terms book.history.group) t left.answers) kept.receipts;
    notes = left.notes ∙ kept.notes;
  },
)

pub refused_from : (fault : EvaluationFault) (shards t : ℕ) (old mid new : PassView) (book book_after : BookState) → book.shards ≡ shards → HasKept old mid → IsNotEvaluated fault t book mid book_after new → IsRefused fault shards t old new
refused_from evaluations.NoSuch shards t old mid new book book_after of_shards kept left = absurd left.refused
refused_from (evaluations.MomentNotLater last) shards t old mid new book book_after of_shards kept left = left_from (evaluations.MomentNotLater last) shards t old mid new book book_after of_shards kept left
refused_from (evaluations.AtShard shard why) shards t old mid new book book_after of_shards kept left = left_from (evaluations.AtShard shard why) shards t old mid new book book_after of_shards kept left
refused_from evaluations.SessionFull shards t old mid new book book_after of_shards kept left = left_from evaluations.SessionFull shards t old mid new book book_after of_shards kept left
refused_from evaluations.Memory shards t old mid new book book_after of_shards kept left = inr (left_from evaluations.Memory shards t old mid new book book_after of_shards kept left)
