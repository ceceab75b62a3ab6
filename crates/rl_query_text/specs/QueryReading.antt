-- Reading terms and queries from their tokens: what is read and the tokens that follow it, or the first fault from the left.
use Rattle.std.specs.Prelude.{ℕ, zero, suc, ◌-◌, Bool, not, ◌&&◌, List, [], ◌∷◌, length, Option, Some, None, is_some, Result, Ok, Err, if◌then◌else◌}
use Rattle.std.specs.Option.{option_map_or}
use Rattle.rl_plain.specs.Answers.{◌>>=◌}
use Rattle.rl_selector_text.specs.declared.stop.Stop.{Stop}
use Rattle.rl_selector_text.specs.Stops.{stop, offset_of, fault_of}
use Rattle.rl_query.specs.declared.fault.QueryFault.{QueryFault}
use Rattle.rl_query.specs.declared.fault.QueryFault.TheVariants as faults
use Rattle.rl_selector_text.specs.declared.front.Position.{Position}
use Rattle.rl_selector_text.specs.declared.front.Position.TheVariants as positions
use Rattle.rl_query.specs.declared.quantity_test.Comparison.{Comparison}
use Rattle.rl_query.specs.declared.query.RangeFunction.{RangeFunction}
use Rattle.rl_selector_text.specs.declared.room.Room.{Room}
use Rattle.rl_query.specs.declared.token.Sign.TheVariants as signs
use Rattle.rl_query.specs.declared.token.Lexeme.{Lexeme}
use Rattle.rl_query.specs.declared.token.Token.{Token}
use Rattle.rl_query.specs.declared.token.Token.TheVariants as tokens
use Rattle.rl_query_text.specs.AggregationReading.{is_operator_word, front_at, ended_at, compared_by, threshold_at}
use Rattle.rl_query.specs.Form.{AggregationForm, TermForm, ThresholdForm, QueryForm, label_tests}
use Rattle.rl_selector_text.specs.Fronts.{refusal, is_sign, next, expected}
use Rattle.rl_selector_text.specs.Lexing.{lexemes_of}
use Rattle.rl_selector_text.specs.Meeting.{meets_pattern}
use Rattle.rl_query.specs.Limits.{most_aggregations, most_parentheses, most_stages, most_tests}
use Rattle.rl_query_text.specs.RangeReading.{opened_at, range_at}
use Rattle.rl_query.specs.Tables.{function_with_text}

-- what reads something from tokens, and leaves those that follow
abbrev pub Reader : Type 0 → Type 0
Reader A = Room → List Lexeme → Result (A × List Lexeme) Stop

-- "(" what is inside ")"
unfoldable pub in_parentheses : {A : Type 0} → Position → Reader A → Reader A
in_parentheses position inside room lexemes = do
  opened ← opened_at position room lexemes
  read ← inside opened.0 opened.1
  closed ← expected signs.CloseParenthesis positions.AfterTerm read.1
  Ok (read.0, closed)

-- what reads a term, at a position and where `nest` vector aggregations may come
abbrev pub TermReader : Type 0
TermReader = Position → (nest : ℕ) → Reader TermForm

abbrev pub around : AggregationForm → TermForm → TermForm
around aggregation term = record { aggregations = aggregation ∷ term.aggregations; function = term.function; range = term.range }

-- what follows the word of a vector aggregation
unfoldable pub aggregated_at : TermReader → (word : List ℕ) → (nest : ℕ) → Reader TermForm
aggregated_at inside word nest room lexemes = do
  front ← front_at word nest room lexemes
  term ← inside positions.InTerm front.0.nest front.0.room front.1
  aggregation ← ended_at front.0 room term.1
  Ok (around aggregation.0 term.0, aggregation.1)

-- a range aggregation after its name
unfoldable pub ranged_at : RangeFunction → Reader TermForm
ranged_at function room lexemes = do
  range ← range_at room lexemes
  Ok (record { aggregations = []; function = function; range = range.0 }, range.1)

-- a term after the word with which it begins
abbrev pub worded_at : TermReader → Position → (offset : ℕ) → (word : List ℕ) → (nest : ℕ) → Reader TermForm
worded_at inside position offset word nest room lexemes =
    if is_operator_word word then aggregated_at inside word nest room lexemes
    else option_map_or (λ function. ranged_at function room lexemes) (function_with_text word) (Err (refusal position offset (tokens.Word word)))

-- a term that begins with the token; the others follow it
abbrev pub begun_at : TermReader → Position → (offset : ℕ) → Token → (nest : ℕ) → Room → (all following : List Lexeme) → Result (TermForm × List Lexeme) Stop
begun_at inside position offset (tokens.Word word) nest room all following = worded_at inside position offset word nest room following
begun_at inside position offset token nest room all following = if is_sign signs.OpenParenthesis token then in_parentheses positions.InTerm (inside positions.InTerm nest) room all else Err (refusal position offset token)

-- a term whose inside is read so
unfoldable pub term_by : TermReader → TermReader
term_by inside position nest room lexemes = do
  first ← next lexemes
  begun_at inside position first.0.offset first.0.token nest room lexemes first.1

-- a term in which terms stand within one another at most `turns` deep
abbrev pub term_in : (turns : ℕ) → TermReader
term_in zero position nest room lexemes = Err (stop faults.TooDeep (offset_of lexemes))
term_in (suc turns) position nest room lexemes = term_by (term_in turns) position nest room lexemes

-- each term within another takes a parenthesis
abbrev pub term_at : Position → Reader TermForm
term_at position room lexemes = term_in (suc room.depth) position most_aggregations room lexemes

abbrev pub alone : TermForm → QueryForm
alone term = record { left = term; over = None; test = None }

-- what a text may still have after a term
abbrev pub room_after : TermForm → Room → Room
room_after term room = record { depth = room.depth; stages = room.stages - length term.range.stages; tests = room.tests - label_tests term.range.stages }

-- a term that is not divided or compared
abbrev pub is_term : QueryForm → Bool
is_term query = not (is_some query.over) && not (is_some query.test)

-- the divisor after a term
unfoldable pub over_at : TermForm → Reader QueryForm
over_at left room lexemes = do
  over ← term_at positions.Divisor (room_after left room) lexemes
  Ok (record { left = left; over = Some over.0; test = None }, over.1)

-- the divisor, where a slash comes
unfoldable pub divided_at : QueryForm → Reader QueryForm
divided_at query room lexemes = do
  first ← next lexemes
  if is_term query && is_sign signs.Slash first.0.token then over_at query.left room first.1 else Ok (query, lexemes)

-- the comparison that comes, where the query has none
abbrev pub comes_to_test : QueryForm → Token → Option Comparison
comes_to_test query token = if is_some query.test then None else compared_by token

-- the threshold after a quotient, where a comparison comes
unfoldable pub compared_at : QueryForm → List Lexeme → Result (Option ThresholdForm × List Lexeme) Stop
compared_at query lexemes = do
  first ← next lexemes
  option_map_or (λ comparison. threshold_at comparison first.1 >>= λ test. Ok (Some test.0, test.1)) (comes_to_test query first.0.token) (Ok (None, lexemes))

-- the query with the threshold that was read after it
abbrev pub with_test : QueryForm → Option ThresholdForm → QueryForm
with_test query None = query
with_test query (Some test) = record { left = query.left; over = query.over; test = Some test }

-- a term as a query
unfoldable pub lone_at : Reader QueryForm
lone_at room lexemes = do
  term ← term_at positions.Start room lexemes
  Ok (alone term.0, term.1)

-- a query in parentheses, or a term
unfoldable pub operand_at : (inside : Reader QueryForm) → Reader QueryForm
operand_at inside room lexemes = do
  first ← next lexemes
  if is_sign signs.OpenParenthesis first.0.token then in_parentheses positions.Start inside room lexemes else lone_at room lexemes

-- what an operand is divided by and compared with
unfoldable pub after_at : QueryForm → Reader QueryForm
after_at operand room lexemes = do
  divided ← divided_at operand room lexemes
  compared ← compared_at divided.0 divided.1
  Ok (with_test divided.0 compared.0, compared.1)

-- an operand, and what follows it
unfoldable pub query_by : (inside : Reader QueryForm) → Reader QueryForm
query_by inside room lexemes = do
  operand ← operand_at inside room lexemes
  after_at operand.0 room operand.1

-- a query in which queries stand within one another at most `turns` deep
abbrev pub query_within : (turns : ℕ) → Reader QueryForm
query_within zero room lexemes = Err (stop faults.TooDeep (offset_of lexemes))
query_within (suc turns) room lexemes = query_by (query_within turns) room lexemes

-- nothing follows a query
abbrev pub ends : ℕ → Token → Result (Unit {0}) Stop
ends offset tokens.End = Ok tt
ends offset token = Err (refusal positions.AfterTerm offset token)

-- all that a text may have
abbrev pub whole_room : Room
whole_room = record { depth = most_parentheses; stages = most_stages; tests = most_tests }

-- a query with all of that
unfoldable pub whole_at : List Lexeme → Result (QueryForm × List Lexeme) Stop
whole_at lexemes = query_within (suc most_parentheses) whole_room lexemes

-- a query is all of its tokens
unfoldable pub query_in : List Lexeme → Result QueryForm Stop
query_in lexemes = do
  query ← whole_at lexemes
  lexeme ← next query.1
  nothing ← ends lexeme.0.offset lexeme.0.token
  Ok query.0

-- the query that a text is, or where reading it from the left stops
abbrev pub query_reading : List ℕ → Result QueryForm Stop
query_reading text = query_in (lexemes_of text)

-- the query that a text is as if each of its patterns had room, or its first fault
abbrev pub query_of : List ℕ → Result QueryForm QueryFault
query_of text = fault_of (query_reading text)

abbrev pub query_meets_pattern : List ℕ → Bool
query_meets_pattern text = meets_pattern (query_reading text) (lexemes_of text)
