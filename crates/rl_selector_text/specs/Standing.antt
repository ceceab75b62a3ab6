-- The tokens that stand at the front, and those of a matcher.
use Rattle.std.specs.Prelude.{◌≡◌, Bool, ◌&&◌, List, [], ◌∷◌}
use Rattle.rl_labels.specs.Name.{is_name}
use Rattle.rl_labels.specs.Operators.{is_comparable}
use Rattle.rl_labels.specs.declared.matcher.MatchOp.{MatchOp}
use Rattle.rl_labels.specs.declared.matcher.MatchOp.TheVariants as operators
use Rattle.rl_query.specs.declared.token.Lexeme.{Lexeme}
use Rattle.rl_query.specs.declared.token.Sign.{Sign}
use Rattle.rl_query.specs.declared.token.Sign.TheVariants as signs
use Rattle.rl_query.specs.declared.token.Token.{Token}
use Rattle.rl_query.specs.declared.token.Token.TheVariants as tokens
use Rattle.rl_query.specs.Form.{MatcherForm}

-- these tokens stand at the front, one after the other
abbrev pub Stand : List Token → List Lexeme → List Lexeme → Type 0
Stand [] lexemes rest = lexemes ≡ rest
Stand (token ∷ tokens) [] rest = ⊥
Stand (token ∷ tokens) (lexeme ∷ lexemes) rest = (lexeme.token ≡ token) × Stand tokens lexemes rest

abbrev pub operator_sign : MatchOp → Sign
operator_sign operators.Equal = signs.Equal
operator_sign operators.NotEqual = signs.NotEqual
operator_sign operators.Matches = signs.Matches
operator_sign operators.NotMatches = signs.NotMatches

-- name="value", or another operator
abbrev pub matcher_tokens : MatcherForm → List Token
matcher_tokens matcher = tokens.Word matcher.name ∷ tokens.Sign (operator_sign matcher.op) ∷ tokens.Text matcher.value ∷ []

-- its name is one, and where it has a pattern its value is one
abbrev pub is_matcher : MatcherForm → Bool
is_matcher matcher = is_name matcher.name && is_comparable matcher.op matcher.value

-- tokens, and those that follow
abbrev pub Rule : Type 1
Rule = List Lexeme → List Lexeme → Type 0
