-- Reading what stands at the front of tokens: a sign, a name, a text or a matcher, and the fault where it does not.
use Rattle.std.specs.Prelude.{ℕ, Bool, true, false, not, ◌||◌, List, [], ◌∷◌, Option, Some, None, is_some, Result, Ok, Err, if◌then◌else◌, codes}
use Rattle.std.specs.List.{list_any}
use Rattle.std.specs.Option.{option_map_or}
use Rattle.std.specs.Str.{str_eq_ignore_ascii_case}
use Rattle.rl_labels.specs.Name.{is_text, is_name}
use Rattle.rl_labels.specs.Operators.{is_comparable}
use Rattle.rl_labels.specs.declared.matcher.MatchOp.{MatchOp}
use Rattle.rl_labels.specs.declared.matcher.MatchOp.TheVariants as operators
use Rattle.rl_selector_text.specs.declared.stop.Stop.{Stop}
use Rattle.rl_selector_text.specs.Stops.{stop, syntax, unsupported}
use Rattle.rl_query.specs.declared.fault.QueryFault.TheVariants as faults
use Rattle.rl_selector_text.specs.declared.front.Position.{Position}
use Rattle.rl_selector_text.specs.declared.front.Position.TheVariants as positions
use Rattle.rl_query.specs.declared.token.Sign.{Sign}
use Rattle.rl_query.specs.declared.token.Sign.TheVariants as signs
use Rattle.rl_query.specs.declared.token.Lexeme.{Lexeme}
use Rattle.rl_query.specs.declared.token.Token.{Token}
use Rattle.rl_query.specs.declared.token.Token.TheVariants as tokens
use Rattle.rl_query.specs.Form.{MatcherForm}
use Rattle.rl_query.specs.Tables.{sign_text, function_text, all_functions}
use Rattle.rl_plain.specs.Answers.{◌>>=◌}

-- a sign between terms
abbrev pub is_operator : Sign → Bool
is_operator signs.Slash = true
is_operator signs.Plus = true
is_operator signs.Minus = true
is_operator signs.Times = true
is_operator signs.Percent = true
is_operator signs.Power = true
is_operator signs.At = true
is_operator signs.OpenBracket = true
is_operator signs.EqualTo = true
is_operator signs.NotEqual = true
is_operator signs.Greater = true
is_operator signs.GreaterOrEqual = true
is_operator signs.Less = true
is_operator signs.LessOrEqual = true
is_operator _ = false

-- a sign that begins a query in LogQL
abbrev pub is_later_start : Sign → Bool
is_later_start signs.OpenBrace = true
is_later_start signs.Minus = true
is_later_start signs.Plus = true
is_later_start _ = false

-- a sign that begins a stage in LogQL, and in the ruler none
abbrev pub is_later_stage : Sign → Bool
is_later_stage signs.ContainsPattern = true
is_later_stage signs.LacksPattern = true
is_later_stage _ = false

abbrev pub is_pipe : Sign → Bool
is_pipe signs.Pipe = true
is_pipe _ = false

abbrev pub is_minus : Sign → Bool
is_minus signs.Minus = true
is_minus _ = false

abbrev pub is_colon : Sign → Bool
is_colon signs.Colon = true
is_colon _ = false

abbrev pub is_at : Sign → Bool
is_at signs.At = true
is_at _ = false

-- LogQL reads its words in any case, the ruler in lower case alone
abbrev pub is_in_any_case : List ℕ → List ℕ → Bool
is_in_any_case = str_eq_ignore_ascii_case

-- the words that begin a query in LogQL, and in the ruler none; those of its vector aggregations are later words in another case
abbrev pub later_words : List (List ℕ)
later_words =
    codes "sum" ∷ codes "count" ∷ codes "min" ∷ codes "max" ∷
    codes "topk" ∷ codes "avg" ∷ codes "stddev" ∷ codes "stdvar" ∷ codes "bottomk" ∷ codes "approx_topk" ∷ codes "sort" ∷ codes "sort_desc" ∷
    codes "label_replace" ∷ codes "vector" ∷ codes "sum_over_time" ∷ codes "avg_over_time" ∷ codes "max_over_time" ∷ codes "min_over_time" ∷
    codes "first_over_time" ∷ codes "last_over_time" ∷ codes "stdvar_over_time" ∷ codes "stddev_over_time" ∷ codes "quantile_over_time" ∷ codes "rate_counter" ∷ []

-- such a word, or that of a range aggregation in any case
abbrev pub is_later_word : List ℕ → Bool
is_later_word word = list_any (λ later. is_in_any_case later word) later_words || list_any (λ function. is_in_any_case (function_text function) word) all_functions

-- the words that LogQL has after an operator
abbrev pub is_matching_word : List ℕ → Bool
is_matching_word word = list_any (λ matching. is_in_any_case matching word) (codes "bool" ∷ codes "on" ∷ codes "ignoring" ∷ codes "group_left" ∷ codes "group_right" ∷ [])

-- the words that join label tests
abbrev pub is_joining_word : List ℕ → Bool
is_joining_word word = is_in_any_case word (codes "and") || is_in_any_case word (codes "or")

abbrev pub is_opening : Sign → Bool
is_opening signs.OpenParenthesis = true
is_opening _ = false

-- LogQL has the word at the position, and the ruler has it not
abbrev pub is_unsupported_word : Position → List ℕ → Bool
is_unsupported_word positions.Start word = is_later_word word
is_unsupported_word positions.InTerm word = is_later_word word
is_unsupported_word positions.Divisor word = is_later_word word || is_matching_word word
is_unsupported_word positions.InThreshold word = is_later_word word || is_matching_word word
is_unsupported_word positions.AfterRange word = is_in_any_case word (codes "offset")
is_unsupported_word positions.AfterFilteredRange word = is_in_any_case word (codes "offset")
is_unsupported_word positions.AfterTerm word = is_joining_word word || is_in_any_case word (codes "unless")
is_unsupported_word positions.InFilter word = true
is_unsupported_word positions.InTest word = is_in_any_case word (codes "ip")
is_unsupported_word positions.AfterTests word = is_joining_word word
is_unsupported_word positions.AfterInnerTests word = is_joining_word word
is_unsupported_word positions.AfterFilter word = is_in_any_case word (codes "or")
is_unsupported_word positions.AfterSieveFilter word = is_in_any_case word (codes "or")
is_unsupported_word positions.AfterParser word = true
is_unsupported_word _ word = false

-- LogQL has the sign at the position, and the ruler has it not
abbrev pub is_unsupported_sign : Position → Sign → Bool
is_unsupported_sign positions.Start sign = is_later_start sign
is_unsupported_sign positions.InTerm sign = false
is_unsupported_sign positions.Divisor sign = is_minus sign
is_unsupported_sign positions.InThreshold sign = is_minus sign || is_opening sign
is_unsupported_sign positions.AfterSelector sign = is_later_stage sign
is_unsupported_sign positions.AfterFilter sign = is_later_stage sign
is_unsupported_sign positions.AfterSieveSelector sign = is_later_stage sign || is_pipe sign
is_unsupported_sign positions.AfterSieveFilter sign = is_later_stage sign || is_pipe sign
is_unsupported_sign positions.AfterTests sign = is_later_stage sign
is_unsupported_sign positions.AfterInnerTests sign = false
is_unsupported_sign positions.InParameter sign = is_minus sign
is_unsupported_sign positions.AfterParser sign = is_later_stage sign || is_minus sign
is_unsupported_sign positions.InRange sign = is_colon sign
is_unsupported_sign positions.AfterRange sign = is_later_stage sign || is_at sign
is_unsupported_sign positions.AfterFilteredRange sign = is_at sign
is_unsupported_sign positions.AfterTerm sign = is_operator sign
is_unsupported_sign positions.InFilter sign = false
is_unsupported_sign positions.InTest sign = is_minus sign
is_unsupported_sign positions.Elsewhere sign = false

abbrev pub is_unsupported : Position → Token → Bool
is_unsupported position (tokens.Word word) = is_unsupported_word position word
is_unsupported position (tokens.Sign sign) = is_unsupported_sign position sign
is_unsupported position _ = false

-- the fault of a token that does not fit its position
abbrev pub refusal : Position → ℕ → Token → Stop
refusal position offset token = if is_unsupported position token then unsupported offset else syntax offset

-- a token is the sign
abbrev pub is_sign : Sign → Token → Bool
is_sign sign (tokens.Sign found) = is_text (sign_text found) (sign_text sign)
is_sign sign _ = false

-- the first token, and those after it. The end is a token, so one is there until it was read
abbrev pub next : List Lexeme → Result (Lexeme × List Lexeme) Stop
next [] = Err (syntax 0)
next (lexeme ∷ lexemes) = Ok (lexeme, lexemes)

-- what follows the sign, which has to stand at the front
unfoldable pub expected : Sign → Position → List Lexeme → Result (List Lexeme) Stop
expected sign position lexemes = do
  lexeme ← next lexemes
  if is_sign sign lexeme.0.token then Ok lexeme.1 else Err (refusal position lexeme.0.offset lexeme.0.token)

-- the name that a token is
abbrev pub name_of : ℕ → Token → Result (List ℕ) Stop
name_of offset (tokens.Word name) = Ok name
name_of offset token = Err (refusal positions.Elsewhere offset token)

-- the text that a token is
abbrev pub content_of : ℕ → Token → Result (List ℕ) Stop
content_of offset (tokens.Text content) = Ok content
content_of offset token = Err (refusal positions.Elsewhere offset token)

-- the operator of a matcher that a sign is
abbrev pub match_of : Sign → Option MatchOp
match_of signs.Equal = Some operators.Equal
match_of signs.NotEqual = Some operators.NotEqual
match_of signs.Matches = Some operators.Matches
match_of signs.NotMatches = Some operators.NotMatches
match_of _ = None

-- a token is the operator of a matcher
abbrev pub is_match : Token → Bool
is_match (tokens.Sign sign) = is_some (match_of sign)
is_match _ = false

-- the operator that a token is
abbrev pub operator_of : ℕ → Token → Result MatchOp Stop
operator_of offset (tokens.Sign sign) = option_map_or Ok (match_of sign) (Err (refusal positions.Elsewhere offset (tokens.Sign sign)))
operator_of offset token = Err (refusal positions.Elsewhere offset token)

-- the matcher of its parts, where its name is one, and its pattern
abbrev pub checked_matcher : (offset : ℕ) → MatcherForm → Result MatcherForm Stop
checked_matcher offset matcher =
    if not (is_name matcher.name) then Err (syntax offset)
    else (if is_comparable matcher.op matcher.value then Ok matcher else Err (stop faults.BadRegex offset))

-- a row of three tokens: a name, a sign and a value, and what they make at the name's offset. Its fault is that of the first that does not fit
abbrev pub row_at : {Op Value Made : Type 0} → (op_of : ℕ → Token → Result Op Stop) → (value_of : ℕ → Token → Result Value Stop) → (made : (offset : ℕ) → List ℕ → Op → Value → Result Made Stop) → List Lexeme → Result (Made × List Lexeme) Stop
row_at op_of value_of made lexemes = do
  first ← next lexemes
  name ← name_of first.0.offset first.0.token
  second ← next first.1
  op ← op_of second.0.offset second.0.token
  third ← next second.1
  value ← value_of third.0.offset third.0.token
  whole ← made first.0.offset name op value
  Ok (whole, third.1)

-- a name, an operator and a text
unfoldable pub matcher_at : List Lexeme → Result (MatcherForm × List Lexeme) Stop
matcher_at lexemes = row_at operator_of content_of (λ offset name op value. checked_matcher offset (record { name = name; op = op; value = value })) lexemes
