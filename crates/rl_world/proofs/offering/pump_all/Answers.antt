-- One sink more.
use Rattle.std.proofs.Common.{is_err, get_or, refl, ap, ◌∙◌, arith}
use Rattle.std.proofs.lemmas.List.{length-set}
use Rattle.rl_sinks.specs.SinkState.{SinkState}
use Rattle.rl_world.specs.Closed.{HasAnswered, IsPumped}
use Rattle.rl_world.proofs.Closing.{is_pumped}
use Rattle.rl_world.proofs.Counting.{each-next}
use Rattle.rl_world.proofs.Offers.{rest-next, sinks-next}
use Rattle.rl_world.proofs.offering.pump_all.Goals as goal

pub loop-number-preserved : goal.loop-number-preserved
loop-number-preserved g c =
    let state = g.S.Sink.state in
    let nows = c.loop-number.sinks in
    let number = c.loop-number.number in
    let new = c.pump.new.self in
    let so_far = c.loop-number.invariant in
    record {
      pumped = sinks-next IsPumped state c.args.sinks.now nows number c.index-sinks-number.result new (omega arith) (omega arith) so_far.rest so_far.pumped (is_pumped (state (get_or nows number c.index-sinks-number.result)) (state new) (is_err c.pump.result) c.pump.ensures.pumped);
      rest = rest-next state c.args.sinks.now nows number new so_far.rest;
      len = length-set nows number new ∙ so_far.len;
      answers = each-next (HasAnswered state g.S.Sink.pump_answers) state nows number new (omega arith) so_far.answers (new, c.pump.result, refl, c.pump.ensures.answer, ap (λ (sink : SinkState). sink.failed) c.pump.ensures.pumped);
    }
