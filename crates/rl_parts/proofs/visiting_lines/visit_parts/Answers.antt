-- Each turn visits the next part, over a store that only reads have changed.
use Rattle.std.proofs.Common.{List, sym, ap, subst, ◌∙◌}
use Rattle.std.specs.List.{AllByRecursion, flat_map, fold}
use Rattle.std.proofs.lemmas.List.{take_all}
use Rattle.std.proofs.lemmas.List.Elements.{All-from_recursion}
use Rattle.std.proofs.lemmas.Result.{err_from_is_err_and}
use Rattle.rl_parts.specs.StreamParts.{PartView}
use Rattle.rl_parts.specs.Reading.{IsOutside, IsVisited, visited_in_range}
use Rattle.rl_parts.specs.laws.UseLaws.{Reads-then, kept_at}
use Rattle.rl_parts.proofs.Visits.{part_more, piece_more}
use Rattle.rl_parts.specs.laws.AnswerLaws.{right_on}
use Rattle.rl_parts.proofs.visiting_lines.visit_parts.Goals as goal

pub returns-in_err-visit_lines-clause-right : goal.returns-in_err-visit_lines-clause-right
returns-in_err-visit_lines-clause-right g c = λ kept honest.
    let p = err_from_is_err_and c.from_residual.result c.from_residual.ensures.1 in
    let here = kept_at c.args.chunks.now c.loop-part.chunks c.args.labels.now c.args.parts.now c.loop-part.part-index c.part-item.result c.loop-part-test.true c.part-item.is c.loop-part.invariant.reads kept in
    rw (p.1, p.2) (right_on c.in_err-visit_lines.field-0.0 _ _ (c.in_err-visit_lines.ensures.right here (c.loop-part.invariant.reads.seen.honest ∙ honest)))

pub loop-part-preserved : goal.loop-part-preserved
loop-part-preserved g c =
    let start = c.args.chunks.now in
    let now = c.loop-part.chunks in
    let outside : AllByRecursion (IsOutside c.args.range.from c.args.range.to) c.args.parts.now → IsOutside c.args.range.from c.args.range.to c.part-item.result = λ apart. subst (IsOutside c.args.range.from c.args.range.to) (sym c.part-item.is) (All-from_recursion (IsOutside c.args.range.from c.args.range.to) c.args.parts.now apart c.loop-part.part-index c.part-item.result c.loop-part-test.true) in
    let more = part_more g.T.Visitor.visiting c.args.range.from c.args.range.to c.args.parts.now c.loop-part.part-index c.part-item.result c.args.visitor.now c.loop-part.visitor c.visit_lines.new.visitor c.loop-part-test.true c.part-item.is in
    record {
      reads = Reads-then start now c.visit_lines.new.chunks c.loop-part.invariant.reads c.visit_lines.ensures.reads;
      counted = c.in_ok-visit_lines.ensures.counted ∙ c.loop-part.invariant.counted;
      unread = λ apart. c.visit_lines.ensures.unread (outside apart) ∙ c.loop-part.invariant.unread apart;
      visited = λ apart. more (c.loop-part.invariant.visited apart) (c.in_ok-visit_lines.ensures.visited (outside apart));
      right = λ kept honest.
          let here = kept_at start now c.args.labels.now c.args.parts.now c.loop-part.part-index c.part-item.result c.loop-part-test.true c.part-item.is c.loop-part.invariant.reads kept in
          more (c.loop-part.invariant.right kept honest) (c.in_ok-visit_lines.ensures.right here (c.loop-part.invariant.reads.seen.honest ∙ honest));
      pieces = piece_more g.T.Visitor.visiting c.args.labels.now c.args.range.from c.args.range.to c.args.parts.now c.loop-part.part-index c.part-item.result c.args.visitor.now c.loop-part.visitor c.visit_lines.new.visitor c.loop-part-test.true c.part-item.is c.loop-part.invariant.pieces c.in_ok-visit_lines.ensures.piece;
    }

pub returns-clause-visited : goal.returns-clause-visited
returns-clause-visited g c = λ apart. c.loop-part.invariant.visited apart ∙ ap (λ (ps : List PartView). fold g.T.Visitor.visiting c.args.visitor.now (visited_in_range c.args.range.from c.args.range.to (flat_map (λ part. part.entries) ps))) (take_all c.loop-part.part-index c.args.parts.now c.loop-part-test.false)

pub returns-clause-right : goal.returns-clause-right
returns-clause-right g c = λ kept honest. c.loop-part.invariant.right kept honest ∙ ap (λ (ps : List PartView). fold g.T.Visitor.visiting c.args.visitor.now (visited_in_range c.args.range.from c.args.range.to (flat_map (λ part. part.entries) ps))) (take_all c.loop-part.part-index c.args.parts.now c.loop-part-test.false)

pub returns-clause-pieces : goal.returns-clause-pieces
returns-clause-pieces g c = subst (λ (ps : List PartView). IsVisited g.T.Visitor.visiting c.args.labels.now c.args.range.from c.args.range.to ps c.args.visitor.now c.loop-part.visitor) (take_all c.loop-part.part-index c.args.parts.now c.loop-part-test.false) c.loop-part.invariant.pieces
