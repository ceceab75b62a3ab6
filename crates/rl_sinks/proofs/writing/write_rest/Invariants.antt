use Rattle.std.proofs.Common.{◌≡◌, ◌-◌, length, true}
use Rattle.rl_sinks.specs.Pieces.{Writes, IsPosition, pieces, rest_of}
use Rattle.rl_sinks.proofs.writing.write_rest.Given as goal

abbrev pub decreases-loop-next : goal.decreases-loop-next
decreases-loop-next g l = l.all - l.next

-- what was left before the next piece is written
abbrev pub invariant-loop-next : goal.invariant-loop-next
invariant-loop-next g l = record {
  all : l.all ≡ length (pieces l.ended l.texts l.count);
  position : IsPosition (pieces true l.texts l.count) l.next l.part;
  stays : IsPosition (pieces l.ended l.texts l.count) l.fn.next l.fn.part → IsPosition (pieces l.ended l.texts l.count) l.next l.part;
  wanted : Writes (g.W.Write.contents l.fn.writer) (g.W.Write.contents l.writer) (rest_of (pieces l.ended l.texts l.count) l.fn.next l.fn.part) (rest_of (pieces l.ended l.texts l.count) l.next l.part);
  written : Writes (g.W.Write.contents l.fn.writer) (g.W.Write.contents l.writer) (rest_of (pieces true l.texts l.count) l.fn.next l.fn.part) (rest_of (pieces true l.texts l.count) l.next l.part);
}
