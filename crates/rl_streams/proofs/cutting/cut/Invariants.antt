use Rattle.std.proofs.Common.{◌≡◌, [], length}
use Rattle.std.specs.List.{AllWithin}
use Rattle.rl_streams.specs.RowSteps.{AreCut}
use Rattle.rl_streams.proofs.cutting.cut.Given as goal

abbrev pub invariant-loop-position : goal.invariant-loop-position
invariant-loop-position l = record {
  cut : AreCut l.fn.streams.entries l.streams.entries;
  many : length l.streams.entries ≡ length l.fn.streams.entries;
  all : AllWithin (λ row. row.1.head ≡ []) l.streams.entries 0 l.position;
}
