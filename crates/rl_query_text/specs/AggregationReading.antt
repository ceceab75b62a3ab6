-- Reading what stands around the term in a vector aggregation: groupings, operators and thresholds.
use Rattle.std.specs.Prelude.{ℕ, zero, suc, ◌+◌, ◌==◌, nat_lt, Bool, true, false, ◌&&◌, ◌||◌, List, [], length, take, drop, position, Option, None, is_some, Result, Ok, Err, if◌then◌else◌, codes}
use Rattle.std.specs.List.{list_all}
use Rattle.std.specs.Char.{is_ascii_digit}
use Rattle.std.specs.Option.{option_map_or}
use Rattle.rl_plain.specs.Answers.{◌>>=◌}
use Rattle.rl_labels.specs.Decimals.{DecimalForm}
use Rattle.rl_labels.specs.Name.{is_name, is_text}
use Rattle.rl_query.specs.declared.aggregation.Grouping.{Grouping}
use Rattle.rl_query.specs.declared.aggregation.Grouping.TheVariants as groupings
use Rattle.rl_query.specs.declared.aggregation.VectorOperator.{VectorOperator}
use Rattle.rl_query.specs.declared.aggregation.VectorOperator.TheVariants as operators
use Rattle.rl_selector_text.specs.Bytes.{point}
use Rattle.rl_selector_text.specs.declared.stop.Stop.{Stop}
use Rattle.rl_selector_text.specs.Stops.{stop, syntax, unsupported, offset_of}
use Rattle.rl_query.specs.declared.fault.QueryFault.TheVariants as faults
use Rattle.rl_query_text.specs.declared.aggregation_reading.Front.{Front}
use Rattle.rl_selector_text.specs.declared.front.Position.TheVariants as positions
use Rattle.rl_query.specs.declared.quantity_test.Comparison.{Comparison}
use Rattle.rl_selector_text.specs.declared.room.Room.{Room}
use Rattle.rl_query.specs.declared.token.Lexeme.{Lexeme}
use Rattle.rl_query.specs.declared.token.Sign.TheVariants as signs
use Rattle.rl_query.specs.declared.token.Token.{Token}
use Rattle.rl_query.specs.declared.token.Token.TheVariants as tokens
use Rattle.rl_query.specs.Aggregations.{threshold_of, top_of}
use Rattle.rl_query.specs.Form.{AggregationForm, ThresholdForm}
use Rattle.rl_selector_text.specs.Fronts.{is_in_any_case, refusal, is_sign, next, expected, name_of}
use Rattle.rl_selector_text.specs.Parsing.{listed_at}
use Rattle.rl_query_text.specs.RangeReading.{opened_at}
use Rattle.rl_query.specs.Tables.{comparison_of, plain_operator}
use Rattle.rl_selector_text.specs.Testing.{is_word}

-- a name that a label may have
abbrev pub label_name : ℕ → Token → Result (List ℕ) Stop
label_name offset token = name_of offset token >>= λ name. if is_name name then Ok name else Err (syntax offset)

-- after a name: whether another follows
abbrev pub name_follows : ℕ → Token → Result Bool Stop
name_follows offset token = if is_sign signs.Comma token then Ok true else (if is_sign signs.CloseParenthesis token then Ok false else Err (refusal positions.Elsewhere offset token))

-- a name, and whether another follows
unfoldable pub named_at : List Lexeme → Result (List ℕ × Bool × List Lexeme) Stop
named_at lexemes = do
  first ← next lexemes
  name ← label_name first.0.offset first.0.token
  following ← next first.1
  more ← name_follows following.0.offset following.0.token
  Ok (name, more, following.1)

-- names joined by commas up to the closing parenthesis, or none
unfoldable pub names_in : List Lexeme → Result (List (List ℕ) × List Lexeme) Stop
names_in lexemes = do
  first ← next lexemes
  if is_sign signs.CloseParenthesis first.0.token then Ok ([], first.1) else listed_at named_at (length lexemes) lexemes

-- the names of a grouping in their parentheses
unfoldable pub grouped_at : Room → List Lexeme → Result (List (List ℕ) × List Lexeme) Stop
grouped_at room lexemes = do
  opened ← opened_at positions.Elsewhere room lexemes
  names_in opened.1

-- a word of groupings in another case
abbrev pub groups_loudly : Token → Bool
groups_loudly (tokens.Word word) = is_in_any_case word (codes "by") || is_in_any_case word (codes "without")
groups_loudly _ = false

-- by (names), without (names), or all where no such word comes
unfoldable pub grouping_at : Room → List Lexeme → Result (Grouping × List Lexeme) Stop
grouping_at room lexemes = do
  first ← next lexemes
  if is_word (codes "by") first.0.token then (grouped_at room first.1 >>= λ names. Ok (groupings.By names.0, names.1)) else (if is_word (codes "without") first.0.token then (grouped_at room first.1 >>= λ names. Ok (groupings.Without names.0, names.1)) else (if groups_loudly first.0.token then Err (unsupported first.0.offset) else Ok (groupings.All, lexemes)))

-- the number of samples that topk keeps
abbrev pub top_at : ℕ → Token → Result ℕ Stop
top_at offset (tokens.Number number) = option_map_or Ok (top_of number) (Err (unsupported offset))
top_at offset token = Err (refusal positions.InParameter offset token)

-- that number and a comma
unfoldable pub topk_at : List Lexeme → Result (VectorOperator × List Lexeme) Stop
topk_at lexemes = do
  number ← next lexemes
  top ← top_at number.0.offset number.0.token
  following ← expected signs.Comma positions.Elsewhere number.1
  Ok (operators.Topk top, following)

-- an operator of the word, and the number that topk has after the parenthesis
abbrev pub operator_at : List ℕ → List Lexeme → Result (VectorOperator × List Lexeme) Stop
operator_at word lexemes = option_map_or (λ operator. Ok (operator, lexemes)) (plain_operator word) (topk_at lexemes)

-- the word of a vector aggregation
abbrev pub is_operator_word : List ℕ → Bool
is_operator_word word = is_some (plain_operator word) || is_text word (codes "topk")

-- one vector aggregation more
abbrev pub nested : (offset nest : ℕ) → Result ℕ Stop
nested offset zero = Err (stop faults.TooDeep offset)
nested offset (suc nest) = Ok nest

-- what follows the word of a vector aggregation, up to the term in it
unfoldable pub front_at : (word : List ℕ) → (nest : ℕ) → Room → List Lexeme → Result (Front × List Lexeme) Stop
front_at word nest room lexemes = do
  fewer ← nested (offset_of lexemes) nest
  grouping ← grouping_at room lexemes
  opened ← opened_at positions.Elsewhere room grouping.1
  operator ← operator_at word opened.1
  Ok (record { operator = operator.0; grouping = grouping.0; nest = fewer; room = opened.0 }, operator.1)

-- the grouping after the parentheses, where none stands before them
abbrev pub back_at : Grouping → Room → List Lexeme → Result (Grouping × List Lexeme) Stop
back_at groupings.All room lexemes = grouping_at room lexemes
back_at grouping room lexemes = Ok (grouping, lexemes)

-- the parenthesis after the term, and the grouping
unfoldable pub ended_at : Front → Room → List Lexeme → Result (AggregationForm × List Lexeme) Stop
ended_at front room lexemes = do
  closed ← expected signs.CloseParenthesis positions.AfterTerm lexemes
  grouping ← back_at front.grouping room closed
  Ok (record { operator = front.operator; grouping = grouping.0 }, grouping.1)

-- digits, one at least
abbrev pub are_digits : List ℕ → Bool
are_digits bytes = nat_lt 0 (length bytes) && list_all is_ascii_digit bytes

-- digits, and perhaps a point and digits after it, however many
abbrev pub is_digits : List ℕ → Bool
is_digits number = option_map_or (λ offset. are_digits (take offset number) && are_digits (drop (offset + 1) number)) (position (λ b. b == point) number) (are_digits number)

-- the number of a threshold
abbrev pub number_at : ℕ → Token → Result DecimalForm Stop
number_at offset (tokens.Number number) = option_map_or Ok (threshold_of number) (Err (if is_digits number then unsupported offset else syntax offset))
number_at offset token = Err (refusal positions.InThreshold offset token)

-- the comparison of a threshold that a token is; `=` is none
abbrev pub compared_by : Token → Option Comparison
compared_by (tokens.Sign signs.Equal) = None
compared_by (tokens.Sign sign) = comparison_of sign
compared_by _ = None

-- the number after a comparison
unfoldable pub threshold_at : Comparison → List Lexeme → Result (ThresholdForm × List Lexeme) Stop
threshold_at comparison lexemes = do
  first ← next lexemes
  value ← number_at first.0.offset first.0.token
  Ok (record { comparison = comparison; value = value }, first.1)
