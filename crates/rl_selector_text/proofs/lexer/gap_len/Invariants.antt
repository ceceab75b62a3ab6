-- What is left of the gap is that of what is left.
use Rattle.std.proofs.Common.{◌≡◌, ◌+◌, false, drop}
use Rattle.rl_selector_text.specs.Lexing.{gap_len}
use Rattle.rl_selector_text.proofs.lexer.gap_len.Given as goal

abbrev pub invariant-loop-index : goal.invariant-loop-index
invariant-loop-index l = l.index + gap_len l.comment (drop l.index l.bytes) ≡ gap_len false l.bytes
