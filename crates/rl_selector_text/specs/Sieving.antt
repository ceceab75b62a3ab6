-- Reading a sieve from its tokens: a selector, line filters, and nothing else.
use Rattle.std.specs.Prelude.{ℕ, Bool, List, [], ◌∷◌, Result, Ok, Err}
use Rattle.rl_plain.specs.Answers.{◌>>=◌}
use Rattle.rl_query.specs.declared.fault.QueryFault.{QueryFault}
use Rattle.rl_selector_text.specs.declared.stop.Stop.{Stop}
use Rattle.rl_selector_text.specs.Stops.{fault_of}
use Rattle.rl_selector_text.specs.Meeting.{meets_pattern}
use Rattle.rl_selector_text.specs.declared.front.Position.{Position}
use Rattle.rl_selector_text.specs.declared.front.Position.TheVariants as positions
use Rattle.rl_query.specs.declared.token.Sign.TheVariants as signs
use Rattle.rl_query.specs.declared.token.Lexeme.{Lexeme}
use Rattle.rl_query.specs.declared.token.Token.{Token}
use Rattle.rl_query.specs.declared.token.Token.TheVariants as tokens
use Rattle.rl_query.specs.Form.{FilterForm, SieveForm}
use Rattle.rl_selector_text.specs.Lexing.{lexemes_of}
use Rattle.rl_query.specs.Limits.{most_stages}
use Rattle.rl_selector_text.specs.Fronts.{next, expected, refusal}
use Rattle.rl_selector_text.specs.Parsing.{selector_at, filters_at}

-- the position after a selector and line filters
abbrev pub after_filters : List FilterForm → Position
after_filters [] = positions.AfterSieveSelector
after_filters (filter ∷ filters) = positions.AfterSieveFilter

-- nothing follows a sieve
abbrev pub sieve_ends : Position → ℕ → Token → Result (Unit {0}) Stop
sieve_ends position offset tokens.End = Ok tt
sieve_ends position offset token = Err (refusal position offset token)

-- the line filters of a sieve, and then the end
unfoldable pub rest_at : List Lexeme → Result (List FilterForm) Stop
rest_at lexemes = do
  filters ← filters_at most_stages lexemes
  last ← next filters.1
  nothing ← sieve_ends (after_filters filters.0) last.0.offset last.0.token
  Ok filters.0

-- a sieve is all of its tokens
unfoldable pub sieve_in : List Lexeme → Result SieveForm Stop
sieve_in lexemes = do
  braced ← expected signs.OpenBrace positions.Elsewhere lexemes
  matchers ← selector_at braced
  filters ← rest_at matchers.1
  Ok (record { matchers = matchers.0; filters = filters })

-- the sieve that a text is, or where reading it from the left stops
abbrev pub sieve_reading : List ℕ → Result SieveForm Stop
sieve_reading text = sieve_in (lexemes_of text)

-- the sieve that a text is as if each of its patterns had room, or its first fault
abbrev pub sieve_of : List ℕ → Result SieveForm QueryFault
sieve_of text = fault_of (sieve_reading text)

abbrev pub sieve_meets_pattern : List ℕ → Bool
sieve_meets_pattern text = meets_pattern (sieve_reading text) (lexemes_of text)
