use Rattle.std.proofs.Common.{◌≡◌, ◌-◌, None}
use Rattle.rl_chunks.specs.ChunkReading.{next_line_at, in_turn}
use Rattle.rl_chunks.proofs.Turns.{last_of, following}
use Rattle.rl_chunks.proofs.reading.rising_lines.Given as goal

abbrev pub invariant-loop : goal.invariant-loop
invariant-loop l = following l.lines.items (in_turn (next_line_at l.format) (l.count - l.counter) (last_of l.lines.items) l.rest) ≡ in_turn (next_line_at l.format) l.count None l.bytes
