-- The tokens of a text one after the other, as a loop reads them.
use Rattle.std.proofs.Common.{◌≡◌, ℕ, suc, ◌+◌, ◌-◌, ◌<◌, ◌≤◌, ◌==◌, true, false, cond, List, [], ◌∷◌, ◌++◌, length, drop, sym, ap, ◌∙◌, arith, append_assoc}
use Rattle.std.proofs.lemmas.Bool.{cond-true, cond-false}
use Rattle.rl_query.specs.declared.token.Lexeme.{Lexeme}
use Rattle.rl_query.specs.declared.token.Token.{Token}
use Rattle.rl_query.specs.declared.token.Token.TheVariants as tokens
use Rattle.rl_selector_text.specs.Lexing.{gap_len, token_at, lexemes_in, lexemes_of}

-- what is left after some turns
pub record Left (text rest : List ℕ) (turns : ℕ) (so_far : List Lexeme) : Type 0 where
  pub read : so_far ++ lexemes_in (length text - turns) (length text) rest ≡ lexemes_of text

-- the tokens that are left, from what follows the gap
abbrev past_gap : ℕ → ℕ → List ℕ → List Lexeme
past_gap most total start = cond (length start == 0) (record { token = tokens.End; offset = total } ∷ []) (record { token = (token_at start).0; offset = total - length start } ∷ lexemes_in most total (token_at start).1)

after_gap : (text rest start : List ℕ) (turns : ℕ) (so_far : List Lexeme) → Left text rest turns so_far → turns < length text → start ≡ drop (gap_len false rest) rest → so_far ++ past_gap (length text - (turns + 1)) (length text) start ≡ lexemes_of text
unfolding lexemes_in
after_gap text rest start turns so_far left inside start_is =
    let more : suc (length text - (turns + 1)) ≡ length text - turns = omega (arith, inside) in
    ap (λ s. so_far ++ past_gap (length text - (turns + 1)) (length text) s) start_is ∙ ap (λ n. so_far ++ lexemes_in n (length text) rest) more ∙ left.read

pub turn : (text rest start following : List ℕ) (turns : ℕ) (token : Token) (so_far grown : List Lexeme) → Left text rest turns so_far → turns < length text → start ≡ drop (gap_len false rest) rest → (length start == 0) ≡ false → (token, following) ≡ token_at start
    → grown ≡ so_far ++ record { token = token; offset = length text - length start } ∷ [] → Left text following (turns + 1) grown
turn text rest start following turns token so_far grown left inside start_is some is grows =
    let others = lexemes_in (length text - (turns + 1)) (length text) in
    let first = ap (λ (x : Token × List ℕ). record { token = x.0; offset = length text - length start } ∷ others x.1) is ∙ sym (cond-false (length start == 0) _ _ some) in
    record { read = ap (λ ls. ls ++ others following) grows ∙ append_assoc so_far (record { token = token; offset = length text - length start } ∷ []) (others following) ∙ ap (λ ls. so_far ++ ls) first ∙ after_gap text rest start turns so_far left inside start_is }

pub ended : (text rest start : List ℕ) (turns : ℕ) (so_far : List Lexeme) → Left text rest turns so_far → turns < length text → start ≡ drop (gap_len false rest) rest → (length start == 0) ≡ true → so_far ++ record { token = tokens.End; offset = length text } ∷ [] ≡ lexemes_of text
ended text rest start turns so_far left inside start_is none = ap (λ ls. so_far ++ ls) (sym (cond-true (length start == 0) _ _ none)) ∙ after_gap text rest start turns so_far left inside start_is

pub all_turned : (text rest : List ℕ) (turns : ℕ) (so_far : List Lexeme) → Left text rest turns so_far → length text ≤ turns → so_far ++ record { token = tokens.End; offset = length text } ∷ [] ≡ lexemes_of text
unfolding lexemes_in
all_turned text rest turns so_far left beyond =
    let none : length text - turns ≡ 0 = omega (arith, beyond) in
    ap (λ n. so_far ++ lexemes_in n (length text) rest) (sym none) ∙ left.read
