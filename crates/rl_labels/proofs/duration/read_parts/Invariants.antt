-- What is left to read follows the parts so far.
use Rattle.std.proofs.Common.{◌-◌}
use Rattle.rl_labels.proofs.Durations.{Left}
use Rattle.rl_labels.proofs.duration.read_parts.Given as goal

abbrev pub invariant-loop-turn : goal.invariant-loop-turn
invariant-loop-turn l = Left l.text l.parts.items (8 - l._turn) l.rest
