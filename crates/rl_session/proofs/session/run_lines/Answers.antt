-- A line more.
use Rattle.std.proofs.Common.{◌∷◌, length, length-append, ap, subst, arith}
use Rattle.std.specs.Option.{option_copied}
use Rattle.std.proofs.lemmas.Result.{err_from_is_err_and}
use Rattle.rl_session.specs.Front.{IsFirstLine}
use Rattle.rl_session.proofs.Cut.{IsUtf8-following}
use Rattle.rl_session.proofs.LinesSoFar.{goes_on, none_executed, executed_line, executed_all, executed_stop, executed_first}
use Rattle.rl_session.proofs.session.run_lines.Goals as goal

pub loop-reader-init : goal.loop-reader-init
loop-reader-init g c = record { text = c.utf8.commands; so_far = none_executed g.E.Engine.calls c.args.engine.now c.args.commands.now c.args.out.now }

pub returns-in_err-answer : goal.returns-in_err-answer
returns-in_err-answer g c =
    let error = err_from_is_err_and c.from_residual.result c.from_residual.ensures.1 in
    rw error.1 (executed_first g.E.Engine.calls c.args.engine.now c.args.commands.now c.loop-reader.rest.now c.first_line.result.0.now (option_copied c.first_line.result.1) c.loop-reader.refused c.in_err-answer.field-0.0
    c.args.out.now c.loop-reader.out c.answer_line.new.out c.loop-reader.engine c.answer_line.new.engine
    c.first_line.ensures c.in_err-answer.ensures c.loop-reader.invariant.so_far)

pub returns-in-Some : goal.returns-in-Some
returns-in-Some g c =
    executed_stop g.E.Engine.calls c.args.engine.now c.args.commands.now c.loop-reader.rest.now c.first_line.result.0.now c.first_line.result.1 c.in-Some.at c.loop-reader.refused c.in_ok-answer.answer
    c.args.out.now c.loop-reader.out c.answer_line.new.out c.loop-reader.engine c.answer_line.new.engine
    c.in-Some.ensures c.first_line.ensures c.in_ok-answer.ensures c.loop-reader.invariant.so_far

pub returns-in-None : goal.returns-in-None
returns-in-None g c =
    let first = subst (λ following. IsFirstLine c.loop-reader.rest.now c.first_line.result.0.now (option_copied following)) c.in-None.is c.first_line.ensures in
    rw c.is_refusal-refused.ensures (executed_all g.E.Engine.calls c.args.engine.now c.args.commands.now c.loop-reader.rest.now c.first_line.result.0.now c.first_line.result.1 c.loop-reader.refused c.in_ok-answer.answer
    c.args.out.now c.loop-reader.out c.answer_line.new.out c.loop-reader.engine c.answer_line.new.engine
    (goes_on c.in_ok-answer.answer c.first_line.result.1 c.stop_at.result c.stop_at.ensures c.in_default.is) first c.in_ok-answer.ensures c.loop-reader.invariant.so_far)

pub loop-reader-preserved : goal.loop-reader-preserved
loop-reader-preserved g c =
    let first = subst (λ following. IsFirstLine c.loop-reader.rest.now c.first_line.result.0.now (option_copied following)) c.in-Some-following.is c.first_line.ensures in
    record {
      text = IsUtf8-following c.loop-reader.rest.now c.first_line.result.0.now c.in-Some-following.following.now c.loop-reader.invariant.text first.1;
      so_far = rw c.is_refusal-refused.ensures (executed_line g.E.Engine.calls c.args.engine.now c.args.commands.now c.loop-reader.rest.now c.first_line.result.0.now c.in-Some-following.following.now c.first_line.result.1 c.loop-reader.refused c.in_ok-answer.answer
          c.args.out.now c.loop-reader.out c.answer_line.new.out c.loop-reader.engine c.answer_line.new.engine
          (goes_on c.in_ok-answer.answer c.first_line.result.1 c.stop_at.result c.stop_at.ensures c.in_default.is) first c.in_ok-answer.ensures c.loop-reader.invariant.so_far);
    }

pub loop-reader-smaller : goal.loop-reader-smaller
loop-reader-smaller g c =
    let first = subst (λ following. IsFirstLine c.loop-reader.rest.now c.first_line.result.0.now (option_copied following)) c.in-Some-following.is c.first_line.ensures in
    omega (arith, ap length first.1, length-append c.first_line.result.0.now (10 ∷ c.in-Some-following.following.now))
