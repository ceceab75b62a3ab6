-- The entries so far are of other letters.
use Rattle.std.proofs.Common.{◌≡◌, drop}
use Rattle.rl_plain.specs.Escapes.{unescape}
use Rattle.rl_plain.proofs.escape.unescape.Given as goal

abbrev pub invariant-loop-entry : goal.invariant-loop-entry
invariant-loop-entry l = unescape l.table l.letter ≡ unescape (drop l.entry-index l.table) l.letter
