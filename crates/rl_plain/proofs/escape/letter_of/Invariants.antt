-- The entries so far are of other bytes.
use Rattle.std.proofs.Common.{◌≡◌, drop}
use Rattle.rl_plain.specs.Escapes.{escape}
use Rattle.rl_plain.proofs.escape.letter_of.Given as goal

abbrev pub invariant-loop-entry : goal.invariant-loop-entry
invariant-loop-entry l = escape l.table l.byte ≡ escape (drop l.entry-index l.table) l.byte
