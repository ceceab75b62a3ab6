-- The terms are those that were read so far, and those that are read of the rest.
use Rattle.std.proofs.Common.{◌≡◌, ◌-◌, map}
use Rattle.rl_query.specs.Form.{term_form}
use Rattle.rl_segments.specs.RecordReading.{in_turn, term_at}
use Rattle.rl_segments.proofs.Turns.{following}
use Rattle.rl_segments.proofs.steps.terms_at.Given as goal

abbrev pub invariant-loop : goal.invariant-loop
invariant-loop l = following (map term_form l.terms.items) (in_turn term_at (l.count - l.counter) l.rest) ≡ in_turn term_at l.count l.bytes
