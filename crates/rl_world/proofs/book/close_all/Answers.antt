-- One sink more.
use Rattle.std.proofs.Common.{◌≡◌, ℕ, ◌+◌, Bool, false, cond, is_err, get_or, map, take, ap, ◌∙◌, sym, refl, arith}
use Rattle.rl_sinks.specs.SinkState.{SinkState}
use Rattle.rl_world.specs.Closed.{HasAnswered, IsClosed, failures}
use Rattle.rl_world.proofs.Closing.{is_closed}
use Rattle.rl_world.proofs.Counting.{each-next, failures-next}
use Rattle.rl_world.proofs.Offers.{rest-next, sinks-next}
use Rattle.rl_world.proofs.book.close_all.Goals as goal
use Rattle.rl_world.proofs.book.close_all.Goals.{then-is_err, else-is_err}

zero_more : (n : ℕ) (b : Bool) → b ≡ false → n ≡ n + cond b 1 0
zero_more n b is = sym (ap (λ b. n + cond b 1 0) is ∙ omega arith)

pub loop-number-preserved : goal.loop-number-preserved
loop-number-preserved g c =
    let state = g.S.Sink.state in
    let nows = c.loop-number.sinks in
    let number = c.loop-number.number in
    let new = c.close.new.self in
    let so_far = c.loop-number.invariant in
    let failed : (state new).failed ≡ is_err c.close.result = ap (λ (sink : SinkState). sink.failed) c.close.ensures.closed in
    let more : c.if-is_err.failed ≡ c.loop-number.failed + cond (is_err c.close.result) 1 0 = elim c.if-is_err.branch [
      | then-is_err w ↦ w.failed-is ∙ ap (λ b. c.loop-number.failed + cond b 1 0) (sym w.if-is_err.true ∙ c.is_err.ensures.value)
      | else-is_err w ↦ w.failed-is ∙ zero_more c.loop-number.failed (is_err c.close.result) (sym c.is_err.ensures.value ∙ w.if-is_err.false)
    ] in
    record {
      closed = sinks-next IsClosed state c.args.sinks.now nows number c.index-sinks-number.result new (omega arith) (omega arith) so_far.rest so_far.closed (is_closed (state (get_or nows number c.index-sinks-number.result)) (state new) (is_err c.close.result) c.close.ensures.closed);
      rest = rest-next state c.args.sinks.now nows number new so_far.rest;
      few = elim c.if-is_err.branch [ then-is_err w ↦ omega arith | else-is_err w ↦ omega arith ];
      counted = more ∙ ap (λ n. n + cond (is_err c.close.result) 1 0) so_far.counted ∙ ap (λ b. failures (take number (map state nows)) + cond b 1 0) (sym failed) ∙ sym (failures-next state nows number new (omega arith));
      answers = each-next (HasAnswered state g.S.Sink.close_answers) state nows number new (omega arith) so_far.answers (new, c.close.result, refl, c.close.ensures.answer, failed);
    }
