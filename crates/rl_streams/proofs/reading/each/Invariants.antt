use Rattle.std.proofs.Common.{◌≡◌, true, false, take}
use Rattle.std.specs.List.{AllByRecursion}
use Rattle.rl_labels.specs.Selects.{selects}
use Rattle.rl_parts.specs.StoreUse.{Reads}
use Rattle.rl_streams.specs.Asking.{visited_of, AreOfRow}
use Rattle.rl_streams.specs.StreamRows.{AreStreams}
use Rattle.rl_streams.proofs.Selecting.{AreFrom}
use Rattle.rl_streams.proofs.reading.each.Given as goal

abbrev pub invariant-loop-position : goal.invariant-loop-position
invariant-loop-position g l = record {
  reads : Reads l.fn.chunks l.chunks;
  faults : l.chunks.seen.faults ≡ l.fn.chunks.seen.faults;
  visited : AreFrom (AreOfRow l.selection.selector l.range.from l.range.to) g.T.Visitor.visiting l.streams.entries (take l.position-index l.selection.positions) l.fn.visitor l.visitor;
  unread : AllByRecursion (λ row. selects l.selection.selector row.0 ≡ false) l.streams.entries → l.chunks ≡ l.fn.chunks;
  right : AreStreams l.streams.entries l.fn.chunks → l.fn.chunks.seen.honest ≡ true
      → AreFrom (λ row lines. lines ≡ visited_of l.selection.selector l.range.from l.range.to row.0 row.1) g.T.Visitor.visiting l.streams.entries (take l.position-index l.selection.positions) l.fn.visitor l.visitor;
}
