-- The first parts are written.
use Rattle.std.proofs.Common.{◌≡◌, take}
use Rattle.rl_parts.specs.Changes.{unwritten_count}
use Rattle.rl_parts.specs.StoreUse.{Puts}
use Rattle.rl_parts.proofs.Writes.{Goes}
use Rattle.rl_parts.proofs.flushing.write_parts.Given as goal

abbrev pub invariant-loop-index : goal.invariant-loop-index
invariant-loop-index g l = record {
  goes : Goes l.labels l.fn.parts l.fn.chunks l.index l.parts l.chunks;
  puts : Puts l.fn.chunks l.chunks.next l.chunks;
  counted : l.chunks.seen.faults ≡ l.fn.chunks.seen.faults;
  all : unwritten_count (take l.index l.parts) ≡ 0;
}
