-- A line of a block.
use Rattle.std.proofs.Common.{◌≡◌, ◌<◌, true, length, get_or, slice_get, Some, None, sym, ◌∙◌}
use Rattle.std.proofs.lemmas.Option.{slice_get-get_or}
use Rattle.std.specs.List.{list_all}
use Rattle.rl_session.specs.Command.{is_blank_byte}
use Rattle.rl_callers.specs.Blocks.{caller_of}
use Rattle.rl_callers.proofs.LinePrinted.{caller_of_within, engines_kept, printed_next, printed_blank}
use Rattle.rl_callers.proofs.running.print_reply.Goals as goal

pub returns-in-Some-clause-printed : goal.returns-in-Some-clause-printed
returns-in-Some-clause-printed g c = λ olds lines goes left.
    let is : caller_of (length c.args.callers.now) c.args.line.now ≡ Some (c.in-Some.number, c.in-Some._command.now) = sym c.in-Some.ensures in
    let within : c.in-Some.number < length c.args.callers.now = caller_of_within (length c.args.callers.now) c.args.line.now c.in-Some.number c.in-Some._command.now is in
    let caller = get_or c.args.callers.now c.in-Some.number c.index-callers-number.result in
    let there : slice_get c.args.callers.now c.in-Some.number ≡ Some caller = slice_get-get_or c.args.callers.now c.in-Some.number c.index-callers-number.result within in
    let line = printed_next g.E.Engine.calls olds c.args.line.now lines c.args.callers.now c.in-Some.number c.in-Some._command.now caller c.print_next.new.self c.print_next.result c.args.out.now c.print_next.new.out
    is there goes left c.print_next.ensures.reply c.print_next.ensures.kept in
    (line.text, line.mids, line.executed, line.left, line.printed)

pub returns-in-Some-clause-engines : goal.returns-in-Some-clause-engines
returns-in-Some-clause-engines g c =
    let is : caller_of (length c.args.callers.now) c.args.line.now ≡ Some (c.in-Some.number, c.in-Some._command.now) = sym c.in-Some.ensures in
    let within : c.in-Some.number < length c.args.callers.now = caller_of_within (length c.args.callers.now) c.args.line.now c.in-Some.number c.in-Some._command.now is in
    let caller = get_or c.args.callers.now c.in-Some.number c.index-callers-number.result in
    let there : slice_get c.args.callers.now c.in-Some.number ≡ Some caller = slice_get-get_or c.args.callers.now c.in-Some.number c.index-callers-number.result within in
    engines_kept c.args.callers.now c.in-Some.number caller c.print_next.new.self there c.print_next.ensures.kept.1

pub returns-in-None-clause-printed : goal.returns-in-None-clause-printed
returns-in-None-clause-printed g c = λ olds lines goes left.
    let none : caller_of (length c.args.callers.now) c.args.line.now ≡ None = sym c.in-None.ensures in
    let blank : list_all is_blank_byte c.args.line.now ≡ true = sym c.is_blank.ensures ∙ c.if-is_blank.true in
    let line = printed_blank g.E.Engine.calls olds c.args.line.now lines c.args.callers.now c.args.out.now none blank goes left in
    (line.text, line.mids, line.executed, line.left, line.printed)
