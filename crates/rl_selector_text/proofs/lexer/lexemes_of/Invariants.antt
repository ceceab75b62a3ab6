-- What is left after the tokens so far.
use denote.Text.{Utf8}
use denote.Shadow.{shadow}
use Rattle.rl_selector_text.proofs.Lexemes.{Left}
use Rattle.rl_selector_text.proofs.lexer.lexemes_of.Given as goal

abbrev pub invariant-loop-turn : goal.invariant-loop-turn
invariant-loop-turn l = shadow (Utf8 l.rest) × Left l.text l.rest l._turn l.lexemes.items
