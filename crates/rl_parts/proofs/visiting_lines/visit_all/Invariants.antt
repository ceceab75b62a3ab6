-- The lines so far are visited.
use Rattle.std.proofs.Common.{◌≡◌, map, take}
use Rattle.std.specs.List.{fold}
use Rattle.rl_parts.specs.Reading.{lines_in_range}
use Rattle.rl_parts.proofs.visiting_lines.visit_all.Given as goal

abbrev pub invariant-loop-line : goal.invariant-loop-line
invariant-loop-line g l = l.visitor ≡ fold g.T.Visitor.visiting l.fn.visitor (lines_in_range l.labels l.range.from l.range.to (map g.L.AsLine.line (take l.line-index l.lines)))
