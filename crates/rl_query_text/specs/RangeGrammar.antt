-- The grammar of ranges, over their tokens and apart from how they are read.
use Rattle.rl_query.specs.Limits.{longest_range}
use Rattle.rl_query.specs.Form.{RangeForm, StageForm}
use Rattle.std.specs.Prelude.{◌≡◌, ◌⊎◌, ℕ, ◌≤◌, List, [], ◌∷◌, Some}
use Rattle.rl_query.specs.declared.token.Lexeme.{Lexeme}
use Rattle.rl_query.specs.declared.token.Sign.TheVariants as signs
use Rattle.rl_query.specs.declared.token.Token.TheVariants as tokens
use Rattle.rl_query.specs.Durations.{duration_of}
use Rattle.rl_selector_text.specs.Standing.{Stand}
use Rattle.rl_selector_text.specs.Grammar.{AreStages, IsSelector}

-- [duration]
pub record IsDuration (seconds : ℕ) (lexemes rest : List Lexeme) : Type 0 where
  pub duration : List ℕ
  pub stand : Stand (tokens.Sign signs.OpenBracket ∷ tokens.Number duration ∷ tokens.Sign signs.CloseBracket ∷ []) lexemes rest
  pub read : duration_of duration ≡ Some seconds
  pub in_range : (1 ≤ seconds) × (seconds ≤ longest_range)

-- stages [duration], or [duration] stages
abbrev pub IsTimed : (depth : ℕ) → List StageForm → ℕ → List Lexeme → List Lexeme → Type 0
IsTimed depth stages seconds lexemes rest = ((following : List Lexeme) × AreStages depth stages lexemes following × IsDuration seconds following rest) ⊎ ((following : List Lexeme) × IsDuration seconds lexemes following × AreStages depth stages following rest)

-- ({matchers} stages [duration]), or the stages after the duration; inside, `depth` parentheses may be open at once
pub record IsRange (depth : ℕ) (range : RangeForm) (lexemes rest : List Lexeme) : Type 0 where
  pub after_parenthesis : List Lexeme
  pub after_selector : List Lexeme
  pub after_duration : List Lexeme
  pub opened : Stand (tokens.Sign signs.OpenParenthesis ∷ []) lexemes after_parenthesis
  pub selector : IsSelector range.matchers after_parenthesis after_selector
  pub timed : IsTimed depth range.stages range.seconds after_selector after_duration
  pub closed : Stand (tokens.Sign signs.CloseParenthesis ∷ []) after_duration rest
