-- The volumes are those that were read so far, and those that are read of the rest.
use Rattle.std.proofs.Common.{◌≡◌, ◌-◌}
use Rattle.rl_segments.specs.RecordReading.{in_turn, volume_at}
use Rattle.rl_segments.proofs.Turns.{following}
use Rattle.rl_segments.proofs.replies.volumes_at.Given as goal

abbrev pub invariant-loop : goal.invariant-loop
invariant-loop l = following (l.volumes.items) (in_turn volume_at (l.count - l.counter) l.rest) ≡ in_turn volume_at l.count l.bytes
