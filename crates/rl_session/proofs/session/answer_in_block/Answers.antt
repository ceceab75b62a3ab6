-- The command is executed, or refused where there is none for a line of a block.
use Rattle.std.proofs.Common.{◌≡◌, ℕ, Bool, List, Option, None, Some, refl, ap, subst, ◌∙◌}
use Rattle.rl_session.specs.Command.{Asked, asked, command_in_block}
use Rattle.rl_session.specs.Engine.{Calls}
use Rattle.rl_session.specs.Printed.{answer_to, printed}
use Rattle.rl_session.specs.Printer.{Printing}
use Rattle.rl_session.specs.Session.{Executes, ExecutesInBlock, IsExecuted, is_refusal}
use Rattle.rl_session.specs.declared.output.Answer.{Answer}
use Rattle.rl_session.specs.declared.output.CommandResult.TheVariants as command_results
use Rattle.rl_session.proofs.session.answer_in_block.Goals as goal
use Rattle.rl_session.proofs.session.answer_in_block.Goals.{in-Some, in-None}

executed_in_block : {E : Type 0} (calls : Calls E) (line : List ℕ) (said : Option Asked) (old new : E) (before after : Printing) (given answer : Answer) (refused : Bool) → said ≡ command_in_block line → Executes calls old said before given after new → answer ≡ given → refused ≡ is_refusal answer → ExecutesInBlock calls old line before refused after new
executed_in_block calls line said old new before after given answer refused is executed same refuses =
    (executed.0, executed.1, subst (λ c. IsExecuted calls old c executed.0 executed.1 new) is executed.2, refuses ∙ ap is_refusal (same ∙ executed.3.0), executed.3.1)

pub returns : goal.returns
returns g c =
    elim c.match-read_in_block.branch [
      | in-Some w ↦
          rw (w.engine-is, w.out-is)
          (executed_in_block g.E.Engine.calls c.args.line.now (Some (asked w.in-Some.command)) c.args.engine.now w.execute-answer.new.engine c.args.out.now w.execute-answer.new.out w.execute-answer.result c.match-read_in_block.answer c.is_refusal.result
          w.in-Some.ensures w.execute-answer.ensures w.answer-is c.is_refusal.ensures)
      | in-None w ↦
          rw (w.engine-is, w.out-is)
          (executed_in_block g.E.Engine.calls c.args.line.now None c.args.engine.now c.args.engine.now c.args.out.now w.write_result-answer.new.out w.write_result-answer.result c.match-read_in_block.answer c.is_refusal.result
          w.in-None.ensures (printed command_results.Refused, answer_to command_results.Refused, ((refl, refl), refl), w.write_result-answer.ensures) w.answer-is c.is_refusal.ensures)
    ]
