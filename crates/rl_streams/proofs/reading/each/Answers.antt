-- Each turn reads one stream of the selection.
use Rattle.std.proofs.Common.{◌≡◌, ◌<◌, ◌≤◌, [], Some, Ok, length, get_or, slice_get, refl, sym, ap, subst, ◌∙◌, take_all, arith}
use Rattle.std.specs.Prelude.{if◌then◌else◌}
use Rattle.std.specs.List.{fold}
use Rattle.std.specs.Map.{values_of}
use Rattle.std.proofs.lemmas.Result.{err_from_is_err_and}
use Rattle.rl_parts.specs.Reading.{visited_in_range}
use Rattle.rl_parts.specs.StreamParts.{entries_of}
use Rattle.rl_parts.specs.laws.UseLaws.{Reads-then}
use Rattle.rl_parts.specs.laws.AnswerLaws.{right_on}
use Rattle.rl_streams.specs.Asking.{visited_of, AreOfRow}
use Rattle.rl_streams.proofs.RowChanges.{within}
use Rattle.rl_streams.proofs.Selecting.{AreFrom, chosen_there, from_more, no_position, right_at_all, selected_there, visited_at_all}
use Rattle.rl_streams.proofs.Visited.{kept_there, of_row}
use Rattle.rl_streams.proofs.reading.each.Goals as goal

pub index-requires : goal.index-requires
index-requires g c =
    let chosen = selected_there c.args.selection.now.selector c.args.streams.now.entries c.positions-position-items.result.now c.loop-position.position-index 0 (c.positions-position-items.ensures ∙ c.requires.positions) c.loop-position-test.true in
    within c.args.streams.now.entries (get_or c.positions-position-items.result.now c.loop-position.position-index 0) chosen.0 chosen.1

pub loop-position-preserved : goal.loop-position-preserved
loop-position-preserved g c =
    let selector = c.args.selection.now.selector in
    let rows = c.args.streams.now.entries in
    let positions = c.args.selection.now.positions in
    let index = c.loop-position.position-index in
    let stream = c.index.result.now in
    let start = c.args.chunks.now in
    let now = c.loop-position.chunks in
    let before = c.loop-position.invariant in
    let items = c.positions-position-items.ensures in
    let within = subst (λ ps. index < length ps) items c.loop-position-test.true in
    let at = subst (λ ps. slice_get (values_of rows) (get_or ps index 0) ≡ Some stream) items c.index.ensures in
    let chosen = chosen_there selector rows positions index stream c.requires.own c.requires.positions within at in
    let lines = of_row selector c.args.range.from c.args.range.to stream g.T.Visitor.visiting c.loop-position.visitor c.each.new.visitor chosen.1 (Ok tt) c.in_ok-each.ensures.pieces in
    record {
      reads = Reads-then start now c.each.new.chunks before.reads c.each.ensures.reads;
      faults = c.in_ok-each.ensures.counted ∙ before.faults;
      visited = from_more (AreOfRow selector c.args.range.from c.args.range.to) g.T.Visitor.visiting rows positions index 0 c.args.visitor.now c.loop-position.visitor c.each.new.visitor within before.visited (lines.lines, ((stream.labels, stream), chosen.0, lines.of_row), lines.visited);
      unread = λ none. absurd (no_position selector rows positions index c.requires.positions none within);
      right = λ are honest.
          let kept = kept_there selector c.args.range.from c.args.range.to rows (get_or positions index 0) stream start now are before.reads at in
          let visited = c.in_ok-each.ensures.right kept (before.reads.seen.honest ∙ honest) in
          from_more (λ row lines. lines ≡ visited_of selector c.args.range.from c.args.range.to row.0 row.1) g.T.Visitor.visiting rows positions index 0 c.args.visitor.now c.loop-position.visitor c.each.new.visitor within (before.right are honest)
          (visited_of selector c.args.range.from c.args.range.to stream.labels stream, ((stream.labels, stream), chosen.0, refl), visited ∙ ap (λ b. fold g.T.Visitor.visiting c.loop-position.visitor (if b then visited_in_range c.args.range.from c.args.range.to (entries_of stream) else [])) (sym chosen.1));
    }

pub returns-in_err-each-clause-unread : goal.returns-in_err-each-clause-unread
returns-in_err-each-clause-unread g c = λ none.
    absurd (no_position c.args.selection.now.selector c.args.streams.now.entries c.args.selection.now.positions c.loop-position.position-index c.requires.positions none (subst (λ ps. c.loop-position.position-index < length ps) c.positions-position-items.ensures c.loop-position-test.true))

pub returns-in_err-each-clause-right : goal.returns-in_err-each-clause-right
returns-in_err-each-clause-right g c = λ are honest.
    let rows = c.args.streams.now.entries in
    let p = err_from_is_err_and c.from_residual.result c.from_residual.ensures.1 in
    let kept = kept_there c.args.selection.now.selector c.args.range.from c.args.range.to rows (get_or c.positions-position-items.result.now c.loop-position.position-index 0) c.index.result.now c.args.chunks.now c.loop-position.chunks are c.loop-position.invariant.reads c.index.ensures in
    rw (p.1, p.2) (right_on c.in_err-each.field-0.0 _ _ (c.in_err-each.ensures.right kept (c.loop-position.invariant.reads.seen.honest ∙ honest)))

pub returns-clause-visited : goal.returns-clause-visited
returns-clause-visited g c =
    let selector = c.args.selection.now.selector in
    let positions = c.args.selection.now.positions in
    let all = take_all c.loop-position.position-index positions (subst (λ ps. length ps ≤ c.loop-position.position-index) c.positions-position-items.ensures (omega (arith, c.loop-position-test.false))) in
    visited_at_all selector c.args.range.from c.args.range.to g.T.Visitor.visiting c.args.streams.now.entries positions c.args.visitor.now c.loop-position.visitor c.requires.positions
    (subst (λ ps. AreFrom (AreOfRow selector c.args.range.from c.args.range.to) g.T.Visitor.visiting c.args.streams.now.entries ps c.args.visitor.now c.loop-position.visitor) all c.loop-position.invariant.visited)

pub returns-clause-right : goal.returns-clause-right
returns-clause-right g c = λ are honest.
    let selector = c.args.selection.now.selector in
    let positions = c.args.selection.now.positions in
    let all = take_all c.loop-position.position-index positions (subst (λ ps. length ps ≤ c.loop-position.position-index) c.positions-position-items.ensures (omega (arith, c.loop-position-test.false))) in
    right_at_all selector c.args.range.from c.args.range.to g.T.Visitor.visiting c.args.streams.now.entries positions c.args.visitor.now c.loop-position.visitor c.requires.positions
    (subst (λ ps. AreFrom (λ row lines. lines ≡ visited_of selector c.args.range.from c.args.range.to row.0 row.1) g.T.Visitor.visiting c.args.streams.now.entries ps c.args.visitor.now c.loop-position.visitor) all (c.loop-position.invariant.right are honest))
