-- The text so far, and what is left to read.
use Rattle.std.proofs.Common.{◌≡◌, string_bytes, length}
use Rattle.std.specs.Str.{IsUtf8}
use Rattle.rl_plain.specs.Runs.{onto}
use Rattle.rl_selector_text.specs.Lexing.{quoted}
use Rattle.rl_selector_text.proofs.lexer.quoted.Given as goal

abbrev pub invariant-loop-content : goal.invariant-loop-content
invariant-loop-content l = record { read : onto (string_bytes l.content) (quoted 0 l.rest) ≡ quoted 0 l.fn.text; utf8 : IsUtf8 l.rest }

abbrev pub decreases-loop-content : goal.decreases-loop-content
decreases-loop-content l = length l.rest
