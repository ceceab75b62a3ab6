-- The shard answered what the book asks about.
use Rattle.std.proofs.Common.{ℕ, List, subst, ◌∙◌}
use Rattle.rl_query.specs.declared.query.Term.{Term}
use Rattle.rl_records.specs.declared.step.ShardReply.TheVariants as replies
use Rattle.rl_records.specs.declared.step.ShardStep.TheVariants as steps
use Rattle.rl_world.specs.Evaluating.{group_terms}
use Rattle.rl_audit.specs.Merged.{receipt_of}
use Rattle.rl_workers.specs.Receipts.{HasAdded}
use Rattle.rl_workers.proofs.seat.gather.Goals as goal

pub returns-clause-gathered : goal.returns-clause-gathered
returns-clause-gathered g c =
    let book = c.args.book.now in
    let place = c.in_ok-place.place in
    let shown = c.in_ok-place.shown in
    let t = c.in-Ok.t in
    let Received : ℕ → List Term → Type 0 = λ slot terms. HasAdded c.args.pass.now (receipt_of c.args.number place (record { step = steps.Collect slot terms t; reply = replies.Collected shown })) c.collect.new.pass in
    record {
      answer = record { place = place; shown = shown };
      t = t;
      moment = c.in-Ok.ensures.moment;
      kept = c.in-Ok-put_partials.ensures.ok;
      received = subst (λ slot. Received slot (group_terms book.history.group)) c.slot.ensures (subst (Received c.slot.result) (c.in_ok-try_copy.ensures ∙ c.terms.ensures) c.in_ok-place.ensures.received);
    }
