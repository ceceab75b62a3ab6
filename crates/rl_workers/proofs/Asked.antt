-- Shards that decide a step one after another.
use Rattle.std.proofs.Common.{◌≡◌, ℕ, suc, ◌+◌, List, [], ◌∷◌, ◌++◌, length, sym, ap, ◌∙◌, arith, append_assoc, length-append}
use Rattle.std.proofs.lemmas.List.{map-append}
use Rattle.rl_records.specs.declared.step.ShardReply.{ShardReply}
use Rattle.rl_records.specs.declared.step.ShardStep.{ShardStep}
use Rattle.rl_audit.specs.Merged.{receipt_of}
use Rattle.rl_workers.specs.Receipts.{PassView, HasAdded, receipts_of}
use Rattle.rl_workers.specs.Rulers.{AreDecidedBy}
use Rattle.rl_audit.specs.declared.receipt.Receipt.{Receipt}

abbrev decided_at : (shard : ℕ) → ShardStep → ℕ × ShardReply → Receipt
decided_at shard step answer = receipt_of shard answer.0 (record { step = step; reply = answer.1 })

receipts_more : (shard : ℕ) (step : ShardStep) (answers : List (ℕ × ShardReply)) (answer : ℕ × ShardReply) → receipts_of shard step (answers ++ answer ∷ []) ≡ receipts_of shard step answers ++ decided_at (shard + length answers) step answer ∷ []
receipts_more shard step [] answer = ap (λ n. decided_at n step answer ∷ []) (omega arith)
receipts_more shard step (first ∷ answers) answer =
    ap (λ (more : List Receipt). decided_at shard step first ∷ more) (receipts_more (suc shard) step answers answer)
    ∙ ap (λ n. decided_at shard step first ∷ (receipts_of (suc shard) step answers ++ decided_at n step answer ∷ [])) (omega arith)

-- a shard more
pub decided_more : (count place : ℕ) (step : ShardStep) (reply : ShardReply) (replies : List ShardReply) (old mid new : PassView) → AreDecidedBy count step old replies mid → HasAdded mid (receipt_of count place (record { step = step; reply = reply })) new → AreDecidedBy (count + 1) step old (replies ++ reply ∷ []) new
decided_more count place step reply replies old mid new so_far next =
    let answers = so_far.answers in
    let answer : ℕ × ShardReply = (place, reply) in
    let at : count ≡ 0 + length answers = omega (arith, so_far.each) in
    record {
      answers = answers ++ answer ∷ [];
      replied = map-append (λ (a : ℕ × ShardReply). a.1) answers (answer ∷ []) ∙ ap (λ (rs : List ShardReply). rs ++ reply ∷ []) so_far.replied;
      each = omega (arith, length-append answers (answer ∷ []), so_far.each);
      received = record {
        receipts = next.receipts
            ∙ ap (λ (rs : List Receipt). rs ++ decided_at count step answer ∷ []) so_far.received.receipts
            ∙ append_assoc old.receipts (receipts_of 0 step answers) (decided_at count step answer ∷ [])
            ∙ ap (λ n. old.receipts ++ (receipts_of 0 step answers ++ decided_at n step answer ∷ [])) at
            ∙ ap (λ (rs : List Receipt). old.receipts ++ rs) (sym (receipts_more 0 step answers answer));
        notes = next.notes ∙ so_far.received.notes;
      };
    }
