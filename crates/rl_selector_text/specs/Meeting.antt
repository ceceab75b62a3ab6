-- The patterns that a reading meets: those whose tokens stand before the offset at which it stops, or all where it does not.
use Rattle.std.specs.Prelude.{◌≡◌, ◌⊎◌, ℕ, nat_lt, Bool, true, false, ◌&&◌, ◌||◌, List, [], ◌∷◌, take, Result, Ok, Err}
use Rattle.std.specs.List.{prefix_len}
use Rattle.rl_plain.specs.declared.refusal.OrMemory.{OrMemory}
use Rattle.rl_plain.specs.declared.refusal.OrMemory.TheVariants.{Fault, Memory}
use Rattle.rl_query.specs.declared.fault.QueryFault.{QueryFault}
use Rattle.rl_query.specs.declared.token.Lexeme.{Lexeme}
use Rattle.rl_query.specs.declared.token.Sign.TheVariants as signs
use Rattle.rl_query.specs.declared.token.Token.{Token}
use Rattle.rl_query.specs.declared.token.Token.TheVariants as tokens
use Rattle.rl_selector_text.specs.declared.stop.Stop.{Stop}
use Rattle.rl_selector_text.specs.Answering.{IsForRoom}
use Rattle.rl_selector_text.specs.Testing.{is_content}

-- a sign that a pattern follows
abbrev pub precedes_pattern : Token → Bool
precedes_pattern (tokens.Sign signs.Matches) = true
precedes_pattern (tokens.Sign signs.NotMatches) = true
precedes_pattern (tokens.Sign signs.ContainsMatch) = true
precedes_pattern _ = false

-- a pattern is among tokens, before which such a sign stands or does not: a text after such a sign
abbrev pub has_pattern_token : (after_sign : Bool) → List Lexeme → Bool
has_pattern_token after_sign [] = false
has_pattern_token after_sign (lexeme ∷ lexemes) = (after_sign && is_content lexeme.token) || has_pattern_token (precedes_pattern lexeme.token) lexemes

-- the tokens before an offset
abbrev pub tokens_before : ℕ → List Lexeme → List Lexeme
tokens_before offset lexemes = take (prefix_len (λ lexeme. nat_lt lexeme.offset offset) lexemes) lexemes

-- the tokens that a reading meets
abbrev pub tokens_met : {A : Type 0} → Result A Stop → List Lexeme → List Lexeme
tokens_met (Ok read) lexemes = lexemes
tokens_met (Err stop) lexemes = tokens_before stop.offset lexemes

abbrev pub meets_pattern : {A : Type 0} → Result A Stop → List Lexeme → Bool
meets_pattern reading lexemes = has_pattern_token false (tokens_met reading lexemes)

-- a sign before a pattern stands at the end of tokens, before which such a sign stands or does not
abbrev pub ends_before_pattern : (after_sign : Bool) → List Lexeme → Bool
ends_before_pattern after_sign [] = after_sign
ends_before_pattern after_sign (lexeme ∷ lexemes) = ends_before_pattern (precedes_pattern lexeme.token) lexemes

-- why a text is refused at which reading stopped: for its fault, or for room where a pattern stands before that
abbrev pub IsRefusal : List Lexeme → OrMemory Stop → OrMemory QueryFault → Type 0
IsRefusal lexemes Memory error = error ≡ Memory
IsRefusal lexemes (Fault stop) error = (error ≡ Fault stop.fault) ⊎ IsForRoom (has_pattern_token false (tokens_before stop.offset lexemes)) error
