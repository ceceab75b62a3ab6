use Rattle.std.proofs.Common.{◌≡◌, ◌-◌, None}
use Rattle.rl_chunks.specs.ChunkReading.{label_at, in_turn}
use Rattle.rl_chunks.proofs.Turns.{last_of, following}
use Rattle.rl_chunks.proofs.reading.pairs_at.Given as goal

abbrev pub invariant-loop : goal.invariant-loop
invariant-loop l = following l.pairs.items (in_turn label_at (l.count - l.counter) (last_of l.pairs.items) l.rest) ≡ in_turn label_at l.count None l.bytes
