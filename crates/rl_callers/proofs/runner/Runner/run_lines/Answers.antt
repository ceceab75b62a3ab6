-- A line of the caller's.
use Rattle.std.proofs.Common.{◌≡◌, ℕ, Some, List, sym, ap, subst, ◌∙◌, Bor}
use Rattle.std.specs.Option.{option_copied, option_map}
use Rattle.rl_session.specs.Session.{lines_left}
use Rattle.rl_callers.specs.Blocks.{caller_of}
use Rattle.rl_callers.proofs.OwnLines.{RepliedSoFar, left_text, line_replied, own_is, text_left}
use Rattle.rl_callers.proofs.runner.Runner.run_lines.Goals as goal

pub loop-rest-preserved-in_ok-answer : goal.loop-rest-preserved-in_ok-answer
loop-rest-preserved-in_ok-answer g c =
    let line = c.first_line.result.0.now in
    let command = c.in-Some-caller_of.command in
    let rest : c.loop-rest.rest ≡ Some c.in-Some.text = cc in
    let found : c.caller_of.result ≡ Some (c.in-Some-caller_of.caller, command) = cc in
    let owned : caller_of c.args.callers line ≡ Some (c.in-Some-caller_of.caller, command.now) = sym c.caller_of.ensures ∙ ap (option_map (λ (own : ℕ × Bor (List ℕ)). (own.0, own.1.now))) found in
    record {
      text = text_left c.in-Some.text.now line c.first_line.result.1 (left_text c.loop-rest.rest c.in-Some.text rest c.loop-rest.invariant.text) c.first_line.ensures;
      so_far = line_replied g.E.Engine.calls c.args.callers c.args.number c.args.self.now c.loop-rest.self c.answer.new.self (lines_left (option_copied c.args.block)) c.in-Some.text.now line command.now (option_copied c.first_line.result.1)
          c.first_line.ensures (sym c.ends_block.ensures ∙ c.if-ends_block.false) (own_is c.args.number (caller_of c.args.callers line) c.in-Some-caller_of.caller command.now owned c.if-caller-number.true) c.in_ok-answer.ensures
          (subst (λ left. RepliedSoFar g.E.Engine.calls c.args.callers c.args.number c.args.self.now (lines_left (option_copied c.args.block)) (lines_left (option_copied left)) c.loop-rest.self) rest c.loop-rest.invariant.so_far);
    }
