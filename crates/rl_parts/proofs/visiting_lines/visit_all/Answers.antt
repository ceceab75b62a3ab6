-- Each turn visits the next line.
use Rattle.std.proofs.Common.{map, ap, ◌∙◌}
use Rattle.std.specs.List.{fold}
use Rattle.std.proofs.lemmas.List.{take_all}
use Rattle.rl_parts.specs.Reading.{lines_in_range}
use Rattle.rl_parts.proofs.Visits.{line_more}
use Rattle.rl_parts.proofs.visiting_lines.visit_all.Goals as goal

pub loop-line-preserved : goal.loop-line-preserved
loop-line-preserved g c = line_more g.T.Visitor.visiting g.L.AsLine.line c.args.labels.now c.args.range.from c.args.range.to c.args.lines.now c.loop-line.line-index c.line-item.result c.args.visitor.now c.loop-line.visitor c.visit_line.new.visitor c.loop-line-test.true c.line-item.is c.loop-line.invariant c.in_ok-visit_line.ensures

pub returns : goal.returns
returns g c = c.loop-line.invariant ∙ ap (λ xs. fold g.T.Visitor.visiting c.args.visitor.now (lines_in_range c.args.labels.now c.args.range.from c.args.range.to (map g.L.AsLine.line xs))) (take_all c.loop-line.line-index c.args.lines.now c.loop-line-test.false)
