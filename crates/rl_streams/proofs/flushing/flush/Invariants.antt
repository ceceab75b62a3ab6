use Rattle.std.proofs.Common.{◌≡◌, length}
use Rattle.std.specs.List.{AllWithin}
use Rattle.rl_parts.specs.Changes.{unwritten_count}
use Rattle.rl_parts.specs.StoreUse.{Puts}
use Rattle.rl_streams.specs.RowSteps.{AreFlushed}
use Rattle.rl_streams.proofs.flushing.flush.Given as goal

abbrev pub invariant-loop-position : goal.invariant-loop-position
invariant-loop-position g l = record {
  flushed : AreFlushed l.fn.streams.entries l.fn.chunks l.streams.entries l.chunks;
  puts : Puts l.fn.chunks l.chunks.next l.chunks;
  faults : l.chunks.seen.faults ≡ l.fn.chunks.seen.faults;
  many : length l.streams.entries ≡ length l.fn.streams.entries;
  all : AllWithin (λ row. unwritten_count row.1.parts ≡ 0) l.streams.entries 0 l.position;
}
