-- Of a selected stream the lines in the range are visited.
use Rattle.std.proofs.Common.{◌≡◌, refl, sym, ap, ◌∙◌}
use Rattle.std.specs.Prelude.{if◌then◌else◌, []}
use Rattle.std.specs.List.{fold}
use Rattle.rl_labels.specs.Selects.{selects}
use Rattle.rl_parts.specs.StreamParts.{entries_of}
use Rattle.rl_parts.specs.Reading.{visited_in_range}
use Rattle.rl_parts.specs.laws.AnswerLaws.{right_then}
use Rattle.rl_streams.specs.Asking.{visited_of}
use Rattle.rl_streams.proofs.Visited.{none_of_row, of_row}
use Rattle.rl_streams.proofs.reading.each_selected.Goals as goal

pub returns-clause-right : goal.returns-clause-right
returns-clause-right g c = λ kept honest.
    let stream = c.args.stream.now in
    let becomes = fold g.T.Visitor.visiting c.args.visitor.now in
    let selected = ap (selects c.args.selector.now) (sym c.labels.ensures) ∙ sym c.in_ok-accepts.ensures.accepts ∙ c.if-not-branch.false in
    right_then (λ _. c.each.new.visitor ≡ becomes (visited_in_range c.args.range.from c.args.range.to (entries_of stream))) (λ _. c.each.new.visitor ≡ becomes (visited_of c.args.selector.now c.args.range.from c.args.range.to stream.labels stream))
    (λ _ is. is ∙ ap (λ b. becomes (if b then visited_in_range c.args.range.from c.args.range.to (entries_of stream) else [])) (sym selected)) c.each.result (c.each.ensures.right kept honest)

pub returns-then-not-branch-clause-lines : goal.returns-then-not-branch-clause-lines
returns-then-not-branch-clause-lines g c =
    let stream = c.args.stream.now in
    let apart = ap (selects c.args.selector.now) (sym c.labels.ensures) ∙ sym c.in_ok-accepts.ensures.accepts ∙ c.if-not-branch.true in
    record { lines = []; of_row = none_of_row c.args.selector.now c.args.range.from c.args.range.to (stream.labels, stream) apart; visited = refl }

pub returns-clause-lines : goal.returns-clause-lines
returns-clause-lines g c =
    let selected = ap (selects c.args.selector.now) (sym c.labels.ensures) ∙ sym c.in_ok-accepts.ensures.accepts ∙ c.if-not-branch.false in
    of_row c.args.selector.now c.args.range.from c.args.range.to c.args.stream.now g.T.Visitor.visiting c.args.visitor.now c.each.new.visitor selected c.each.result c.each.ensures.pieces
