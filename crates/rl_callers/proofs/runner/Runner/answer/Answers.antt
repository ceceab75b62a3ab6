-- The text of a reply is what was printed of its command.
use Rattle.std.proofs.Common.{Some, refl, sym, ap, subst, ◌∙◌}
use Rattle.rl_session.specs.Command.{command_in_block}
use Rattle.rl_session.specs.Printer.{new_printing}
use Rattle.rl_session.specs.Session.{IsExecuted}
use Rattle.rl_callers.proofs.Texts.{text_held}
use Rattle.rl_callers.proofs.runner.Runner.answer.Goals as goal

pub returns : goal.returns
returns g c =
    let done = c.answer_in_block-refused.ensures in
    let held = text_held c.new-out.result c.answer_in_block-refused.new.out c.flush.new.self done.0 c.into_writer-text.result.items (c.new-out.ensures ∙ ap (λ items. new_printing (Some items)) c.new.ensures.items) done.4 c.in-Ok.ensures.same c.in-Ok.ensures.ok.1 c.into_writer-text.ensures in (
      done.1,
      record { text = c.into_writer-text.result; refused = c.answer_in_block-refused.result },
      subst (λ text. IsExecuted g.E.Engine.calls c.args.self.now.engine (command_in_block c.args.command.now) text done.1 c.answer_in_block-refused.new.engine) (sym held) done.2,
      done.3,
      c.in_ok-push.ensures.items,
      refl,
    )
