-- The partials are those that were read so far, and those that are read of the rest.
use Rattle.std.proofs.Common.{◌≡◌, ◌-◌}
use Rattle.rl_segments.specs.RecordReading.{in_turn, partial_at}
use Rattle.rl_segments.proofs.Turns.{following}
use Rattle.rl_segments.proofs.replies.partials_at.Given as goal

abbrev pub invariant-loop : goal.invariant-loop
invariant-loop l = following (l.partials.items) (in_turn partial_at (l.count - l.counter) l.rest) ≡ in_turn partial_at l.count l.bytes
