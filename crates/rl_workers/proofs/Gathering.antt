-- Shards that answer for an evaluation one after another.
use Rattle.std.proofs.Common.{◌≡◌, ℕ, suc, ◌+◌, ◌-◌, ◌<◌, List, [], ◌∷◌, ◌++◌, length, Option, None, Some, refl, sym, ap, ◌∙◌, arith, append_assoc, length-append}
use Rattle.std.proofs.lemmas.List.{append-nil}
use Rattle.std.specs.Prelude.{replicate}
use Rattle.rl_query.specs.declared.query.Term.{Term}
use Rattle.rl_records.specs.declared.step.ShardReply.TheVariants as replies
use Rattle.rl_records.specs.declared.step.ShardStep.TheVariants as steps
use Rattle.rl_world.specs.BookCalls.{moment_of, with_history}
use Rattle.rl_world.specs.Evaluating.{group_terms}
use Rattle.rl_world.specs.History.{begin_fault, begun, gathered}
use Rattle.rl_world.specs.WorldState.{BookState}
use Rattle.rl_audit.specs.Merged.{receipt_of}
use Rattle.rl_workers.specs.Receipts.{PassView, receipts_asked}
use Rattle.rl_audit.specs.Driven.{opened_with, with_open}
use Rattle.rl_workers.specs.Seats.{AreGathered, IsGathered}
use Rattle.rl_audit.specs.declared.receipt.Receipt.{Receipt}
use Rattle.rl_audit.proofs.Answered.{given_next, Answer}

-- the receipt of one question more
abbrev asked_at : (shard slot : ℕ) → List Term → (t : ℕ) → Answer → Receipt
asked_at shard slot terms t answer = receipt_of shard answer.place (record { step = steps.Collect slot terms t; reply = replies.Collected answer.shown })

receipts_more : (shard slot : ℕ) (terms : List Term) (t : ℕ) (answers : List Answer) (answer : Answer) → receipts_asked shard slot terms t (answers ++ answer ∷ []) ≡ receipts_asked shard slot terms t answers ++ asked_at (shard + length answers) slot terms t answer ∷ []
receipts_more shard slot terms t [] answer = ap (λ n. asked_at n slot terms t answer ∷ []) (omega arith)
receipts_more shard slot terms t (first ∷ answers) answer =
    ap (λ (more : List Receipt). asked_at shard slot terms t first ∷ more) (receipts_more (suc shard) slot terms t answers answer)
    ∙ ap (λ n. asked_at shard slot terms t first ∷ receipts_asked (suc shard) slot terms t answers ++ asked_at n slot terms t answer ∷ []) (omega arith)

some_is : (a b : ℕ) → Some a ≡ Some b → a ≡ b
some_is a b h = cc

-- a shard more answered
pub gathered_more : (count t : ℕ) (book mid new : BookState) (pass pass_mid pass_new : PassView) → count < book.shards → AreGathered count t book pass mid pass_mid → IsGathered count mid pass_mid new pass_new → AreGathered (count + 1) t book pass new pass_new
gathered_more count t book mid new pass pass_mid pass_new below so_far next =
    let answers = so_far.answers in
    let answer = next.answer in
    let few : length answers < book.shards = omega (arith, below, so_far.each) in
    let moment : next.t ≡ t = some_is next.t t (sym next.moment ∙ ap (λ (b : BookState). moment_of b.history) so_far.kept) in
    let at : count ≡ 0 + length answers = omega (arith, so_far.each) in
    let receipt : asked_at count mid.slot (group_terms mid.history.group) next.t answer ≡ asked_at (0 + length answers) book.slot (group_terms book.history.group) t answer =
    ap (λ (b : BookState). asked_at count b.slot (group_terms b.history.group) next.t answer) so_far.kept
    ∙ ap (λ m. asked_at count book.slot (group_terms book.history.group) m answer) moment
    ∙ ap (λ n. asked_at n book.slot (group_terms book.history.group) t answer) at in
    record {
      later = so_far.later;
      answers = answers ++ answer ∷ [];
      each = omega (arith, length-append answers (answer ∷ []), so_far.each);
      kept = next.kept
          ∙ ap (λ (b : BookState). with_history b (gathered b.history count answer.place answer.shown)) so_far.kept
          ∙ ap (λ n. with_history book (gathered (with_open (opened_with book.shards t answers) book.history) n answer.place answer.shown)) (sym so_far.each)
          ∙ ap (λ (given : List (Option Answer)). with_history book (with_open (record { t = t; gathered = given }) book.history)) (given_next book.shards answers answer few);
      receipts = next.received.receipts
          ∙ ap (λ (more : List Receipt). more ++ asked_at count mid.slot (group_terms mid.history.group) next.t answer ∷ []) so_far.receipts
          ∙ ap (λ (r : Receipt). (pass.receipts ++ receipts_asked 0 book.slot (group_terms book.history.group) t answers) ++ r ∷ []) receipt
          ∙ append_assoc pass.receipts (receipts_asked 0 book.slot (group_terms book.history.group) t answers) (asked_at (0 + length answers) book.slot (group_terms book.history.group) t answer ∷ [])
          ∙ ap (λ (more : List Receipt). pass.receipts ++ more) (sym (receipts_more 0 book.slot (group_terms book.history.group) t answers answer));
      notes = next.received.notes ∙ so_far.notes;
      receipt_room = omega (arith, next.received.receipt_room, so_far.receipt_room);
      note_room = next.received.note_room ∙ so_far.note_room;
    }

-- no shard answered yet
pub gathered_none : (t : ℕ) (book mid : BookState) (pass : PassView) → begin_fault book.history t ≡ None → mid ≡ with_history book (begun book.shards book.history t) → AreGathered 0 t book pass mid pass
gathered_none t book mid pass later is =
    let all : book.shards ≡ book.shards - 0 = omega arith in
    record {
      later = later;
      answers = [];
      each = refl;
      kept = is ∙ ap (λ k. with_history book (with_open (record { t = t; gathered = replicate k None }) book.history)) all;
      receipts = sym (append-nil pass.receipts);
      notes = refl;
      receipt_room = omega arith;
      note_room = refl;
    }
