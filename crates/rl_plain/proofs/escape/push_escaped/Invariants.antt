-- What was pushed and what is left make the whole.
use Rattle.std.proofs.Common.{◌≡◌, ◌++◌, length, string_bytes}
use denote.Text.{Utf8}
use denote.Shadow.{shadow}
use Rattle.rl_plain.specs.Escapes.{escaped}
use Rattle.rl_plain.proofs.escape.push_escaped.Given as goal

abbrev pub invariant-loop-plain : goal.invariant-loop-plain
invariant-loop-plain l = shadow (Utf8 l.rest) × (string_bytes l.text ++ escaped l.table l.rest ≡ string_bytes l.fn.text ++ escaped l.table l.value)

abbrev pub decreases-loop-plain : goal.decreases-loop-plain
decreases-loop-plain l = length l.rest
