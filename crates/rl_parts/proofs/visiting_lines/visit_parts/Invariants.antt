-- The parts so far are visited.
use Rattle.std.proofs.Common.{◌≡◌, true, take}
use Rattle.std.specs.List.{AllByRecursion, flat_map, fold}
use Rattle.rl_parts.specs.StoreUse.{Reads, IsKept}
use Rattle.rl_parts.specs.Reading.{IsOutside, IsVisited, visited_in_range}
use Rattle.rl_parts.proofs.visiting_lines.visit_parts.Given as goal

abbrev pub invariant-loop-part : goal.invariant-loop-part
invariant-loop-part g l = record {
  reads : Reads l.fn.chunks l.chunks;
  counted : l.chunks.seen.faults ≡ l.fn.chunks.seen.faults;
  unread : AllByRecursion (IsOutside l.range.from l.range.to) l.parts → l.chunks ≡ l.fn.chunks;
  visited : AllByRecursion (IsOutside l.range.from l.range.to) l.parts → l.visitor ≡ fold g.T.Visitor.visiting l.fn.visitor (visited_in_range l.range.from l.range.to (flat_map (λ part. part.entries) (take l.part-index l.parts)));
  right : AllByRecursion (IsKept l.fn.chunks l.labels) l.parts → l.fn.chunks.seen.honest ≡ true → l.visitor ≡ fold g.T.Visitor.visiting l.fn.visitor (visited_in_range l.range.from l.range.to (flat_map (λ part. part.entries) (take l.part-index l.parts)));
  pieces : IsVisited g.T.Visitor.visiting l.labels l.range.from l.range.to (take l.part-index l.parts) l.fn.visitor l.visitor;
}
