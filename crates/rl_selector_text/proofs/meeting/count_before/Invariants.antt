-- The tokens before the offset are those passed so far and, of the rest, those before it.
use Rattle.std.proofs.Common.{◌≡◌, ◌+◌, nat_lt, drop}
use Rattle.std.specs.List.{prefix_len}
use Rattle.rl_selector_text.proofs.meeting.count_before.Given as goal

abbrev pub invariant-loop-index : goal.invariant-loop-index
invariant-loop-index l = l.index + prefix_len (λ lexeme. nat_lt lexeme.offset l.offset) (drop l.index l.lexemes) ≡ prefix_len (λ lexeme. nat_lt lexeme.offset l.offset) l.lexemes
