use Rattle.std.proofs.Common.{◌≡◌, true}
use Rattle.rl_streams.specs.Asking.{left}
use Rattle.rl_streams.specs.CursorState.{AreAsked}
use Rattle.rl_streams.specs.StreamsState.{order_of, Looks}
use Rattle.rl_streams.proofs.cursor.fill.Given as goal

abbrev pub invariant-loop-next : goal.invariant-loop-next
invariant-loop-next g l = record {
  same : Looks l.fn.streams l.streams;
  asked : AreAsked l.fn.streams.rows l.selector l.range.from l.range.to l.fn.position l.fn.lines l.position l.lines;
  faults : l.streams.seen.faults ≡ l.fn.streams.seen.faults;
  at : l.position ≡ l.next;
  left : l.fn.streams.seen.honest ≡ true → left l.selector l.range.from l.range.to (order_of l.streams) l.position l.lines ≡ left l.selector l.range.from l.range.to (order_of l.fn.streams) l.fn.position l.fn.lines;
}
