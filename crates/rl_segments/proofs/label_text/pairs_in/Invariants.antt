-- The labels are those that were read so far, and those that are read of the rest.
use Rattle.std.proofs.Common.{◌≡◌, ◌-◌, length}
use Rattle.rl_plain.specs.Answers.{with_front}
use Rattle.rl_segments.specs.LabelReading.{pairs_in}
use Rattle.rl_segments.proofs.label_text.pairs_in.Given as goal

abbrev pub invariant-loop : goal.invariant-loop
invariant-loop l = with_front l.pairs.items (pairs_in (length l.bytes - l.counter) l.rest) ≡ pairs_in (length l.bytes) l.bytes
