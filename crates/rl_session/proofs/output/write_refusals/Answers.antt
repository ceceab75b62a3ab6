-- The line of an answer more, if it is a refusal.
use Rattle.std.proofs.Common.{◌<◌, [], length, None, Some, sym, ap, subst, arith, ◌∙◌}
use Rattle.std.specs.Option.{option_map}
use Rattle.std.proofs.KnownBytes.{Appends-nil}
use Rattle.rl_session.specs.Printed.{entry_line}
use Rattle.rl_session.specs.Printer.{Prints, as_list}
use Rattle.rl_session.proofs.Printing.{answers_written}
use Rattle.rl_session.proofs.output.write_refusals.Goals as goal
use Rattle.rl_session.proofs.output.write_refusals.Goals.{in-Some, in_default}

pub loop-number-preserved : goal.loop-number-preserved
loop-number-preserved g c =
    let i = c.loop-number.number in
    let before = c.loop-number.out in
    let below : i < length c.args.answers.now = omega (arith, c.loop-number-test.true) in
    elim c.match-push_refusal.branch [
      | in-Some w ↦
          answers_written (as_list c.args.out.now) (as_list before) (as_list c.match-push_refusal.out) c.args.answers.now i c.index-answers-number.result (Some w.in-Some.name.now) below c.index-answers-number.is
          (sym c.push_refusal.ensures ∙ ap (option_map (λ name. name.now)) w.in-Some.is) c.loop-number.invariant
          (subst (Prints before (entry_line i (Some w.in-Some.name.now))) (sym w.out-is) w.write_refusal.ensures)
      | in_default w ↦
          answers_written (as_list c.args.out.now) (as_list before) (as_list c.match-push_refusal.out) c.args.answers.now i c.index-answers-number.result None below c.index-answers-number.is
          (sym c.push_refusal.ensures ∙ ap (option_map (λ name. name.now)) w.in_default.is) c.loop-number.invariant
          (subst (Prints before []) (sym w.out-is) (Appends-nil (as_list before)))
    ]
