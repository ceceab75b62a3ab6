-- Each turn reads the next label.
use Rattle.std.proofs.Common.{sym, ap, subst, ◌∙◌}
use Rattle.std.proofs.lemmas.Result.{err_from_is_err_and}
use Rattle.rl_plain.specs.Answers.{Fails}
use Rattle.rl_chunks.specs.ChunkReading.{label_at}
use Rattle.rl_chunks.proofs.Turns.{last_of, goes_on, ends, is_done}
use Rattle.rl_chunks.proofs.reading.pairs_at.Goals as goal

pub returns-in_err-label : goal.returns-in_err-label
returns-in_err-label c =
    let p = err_from_is_err_and c.from_residual.result c.from_residual.ensures.1 in
    let here = subst (λ pairs. Fails c.in_err-label.field-0.0 (label_at (last_of pairs) c.loop.rest.now)) c.deref.ensures.value c.in_err-label.ensures in
    rw (p.1, p.2) (ends label_at c.in_err-label.field-0.0 c.loop.pairs.items c.args.count c.loop.counter c.loop.rest.now _ c.loop-test.true here c.loop.invariant)

pub loop-preserved : goal.loop-preserved
loop-preserved c =
    let here = ap (λ pairs. label_at (last_of pairs) c.loop.rest.now) (sym c.deref.ensures.value) ∙ c.in_ok-label.ensures in
    rw c.in_ok-push.ensures.items (goes_on label_at c.loop.pairs.items c.args.count c.loop.counter c.loop.rest.now c.in_ok-label.label c.in_ok-label.following.now _ c.loop-test.true here c.loop.invariant)

pub returns : goal.returns
returns c = is_done label_at c.loop.pairs.items c.args.count c.loop.counter c.loop.rest.now _ c.loop-test.false c.loop.invariant
