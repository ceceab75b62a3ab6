-- A shard more, or the first that does not decide it.
use Rattle.std.proofs.Common.{◌+◌, ◌<◌, ◌++◌, ◌∷◌, [], length, refl, sym, ap, subst, ◌∙◌, arith}
use Rattle.std.proofs.lemmas.List.{length-append}
use Rattle.std.proofs.lemmas.Result.{err_from_is_err_and}
use Rattle.rl_session.specs.WorldEngine.{IsStopped, or_else, refusing}
use Rattle.rl_session.proofs.Worlds.{decided_more, first_more}
use Rattle.rl_session.proofs.world_engine.WorldEngine.ask_each.Goals as goal

pub loop-number-init : goal.loop-number-init
loop-number-init g c = record { replies = []; many = refl; refused = refl; made = refl; alike = (refl, refl) }

pub loop-number-preserved : goal.loop-number-preserved
loop-number-preserved g c =
    let kept = c.loop-number.invariant in
    let reply = c.in_ok-reply.reply in
    record {
      replies = kept.replies ++ reply ∷ [];
      many = length-append kept.replies (reply ∷ []) ∙ ap (λ n. n + 1) kept.many;
      refused = c.first_refused-refused.ensures ∙ ap (λ before. or_else before (refusing reply)) kept.refused ∙ sym (first_more kept.replies reply);
      made = decided_more c.args.self.now c.args.step.now 0 c.loop-number.number kept.replies c.loop-number.self reply c.ask.new.self (omega (arith, kept.many)) kept.made c.in_ok-reply.ensures.made;
      alike = (c.in_ok-reply.ensures.alike.0 ∙ kept.alike.0, c.in_ok-reply.ensures.alike.1 ∙ kept.alike.1);
    }

pub returns-in_err-reply-clause-made : goal.returns-in_err-reply-clause-made
returns-in_err-reply-clause-made g c =
    let kept = c.loop-number.invariant in
    let error = err_from_is_err_and c.from_residual.result c.from_residual.ensures.1 in
    let partly = c.in_err-reply.field-0.0 in
    let below : partly.done < length c.args.self.now.shards = omega (arith, c.in_err-reply.ensures.made.0, c.loop-number-test.true, c.shards-number-end.ensures.count) in
    rw (error.1, error.2) (kept.replies, kept.many ∙ sym c.in_err-reply.ensures.made.0, below, c.loop-number.self, kept.made, subst (λ n. IsStopped c.loop-number.self c.args.step.now n partly.refusal c.ask.new.self) (sym c.in_err-reply.ensures.made.0) c.in_err-reply.ensures.made.1)

pub returns-in_err-reply-clause-alike : goal.returns-in_err-reply-clause-alike
returns-in_err-reply-clause-alike g c = (c.in_err-reply.ensures.alike.0 ∙ c.loop-number.invariant.alike.0, c.in_err-reply.ensures.alike.1 ∙ c.loop-number.invariant.alike.1)

pub returns-clause-made : goal.returns-clause-made
returns-clause-made g c =
    let kept = c.loop-number.invariant in
    (kept.replies, kept.many ∙ omega (arith, c.loop-number-test.false, c.loop-number.auto.number-end, c.shards-number-end.ensures.count), kept.refused, kept.made)

pub returns-clause-alike : goal.returns-clause-alike
returns-clause-alike g c = c.loop-number.invariant.alike
