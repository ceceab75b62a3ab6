-- Reading a range from its tokens: a selector, stages and a duration in parentheses, or the first fault from the left.
use Rattle.std.specs.List.{list_any, list_all}
use Rattle.std.specs.Prelude.{Some, None, ℕ, zero, suc, ◌-◌, ◌==◌, nat_le, Bool, ◌&&◌, ◌||◌, List, [], ◌∷◌, length, slice_index, Option, is_some, Result, Ok, Err, if◌then◌else◌, codes}
use Rattle.rl_selector_text.specs.Bytes.{point}
use Rattle.rl_selector_text.specs.Fronts.{refusal, next, expected}
use Rattle.rl_query.specs.Limits.{longest_range}
use Rattle.rl_query.specs.Form.{StageForm, RangeForm}
use Rattle.std.specs.Char.{is_ascii_digit}
use Rattle.rl_selector_text.specs.declared.stop.Stop.{Stop}
use Rattle.rl_selector_text.specs.Stops.{stop, syntax, offset_of}
use Rattle.rl_query.specs.declared.fault.QueryFault.TheVariants as faults
use Rattle.rl_selector_text.specs.declared.front.Position.{Position}
use Rattle.rl_selector_text.specs.declared.front.Position.TheVariants as positions
use Rattle.rl_selector_text.specs.declared.room.Room.{Room}
use Rattle.rl_query.specs.declared.token.Sign.TheVariants as signs
use Rattle.rl_query.specs.declared.token.Lexeme.{Lexeme}
use Rattle.rl_query.specs.declared.token.Token.{Token}
use Rattle.rl_query.specs.declared.token.Token.TheVariants as tokens
use Rattle.rl_query.specs.Durations.{duration_of}
use Rattle.rl_labels.specs.Quantities.{duration_of as label_duration_of}
use Rattle.rl_plain.specs.Answers.{◌>>=◌}
use Rattle.rl_selector_text.specs.Parsing.{after_stages, selector_at, stages_in}

-- the letters of units
abbrev pub is_unit_letter : ℕ → Bool
is_unit_letter letter = list_any (λ unit. letter == unit) (codes "wdhmsynu")

abbrev pub is_duration_byte : ℕ → Bool
is_duration_byte byte = is_ascii_digit byte || (byte == point || is_unit_letter byte)

-- digits, points and letters of units, with a letter at the end, or a duration as label tests have it, with a micro sign
abbrev pub looks_like_duration : List ℕ → Bool
looks_like_duration bytes = (list_all is_duration_byte bytes && is_unit_letter (slice_index bytes (length bytes - 1))) || is_some (label_duration_of bytes)

-- whole seconds, from 1 to the longest range
abbrev pub checked_range : (offset seconds : ℕ) → Result ℕ Stop
checked_range offset seconds = if nat_le 1 seconds && nat_le seconds longest_range then Ok seconds else Err (stop faults.BadRange offset)

-- the seconds of a number with units
abbrev pub seconds_of : Option ℕ → ℕ → List ℕ → Result ℕ Stop
seconds_of (Some seconds) offset number = checked_range offset seconds
seconds_of None offset number = if looks_like_duration number then Err (stop faults.BadRange offset) else Err (syntax offset)

abbrev pub range_of : ℕ → Token → Result ℕ Stop
range_of offset (tokens.Number number) = seconds_of (duration_of number) offset number
range_of offset token = Err (refusal positions.Elsewhere offset token)

-- a range in brackets
unfoldable pub seconds_at : Position → List Lexeme → Result (ℕ × List Lexeme) Stop
seconds_at position lexemes = do
  bracket ← expected signs.OpenBracket position lexemes
  number ← next bracket
  seconds ← range_of number.0.offset number.0.token
  closed ← expected signs.CloseBracket positions.InRange number.1
  Ok (seconds, closed)

-- the parenthesis after a range, and the stages before it, if none stand before the range
unfoldable pub closed_at : Room → List StageForm → List Lexeme → Result (List StageForm × List Lexeme) Stop
closed_at room [] lexemes = do
  stages ← stages_in room lexemes
  closed ← expected signs.CloseParenthesis (after_stages positions.AfterRange stages.0) stages.1
  Ok (stages.0, closed)
closed_at room (stage ∷ stages) lexemes = do
  closed ← expected signs.CloseParenthesis positions.AfterFilteredRange lexemes
  Ok (stage ∷ stages, closed)

-- a range in brackets after stages or none, and what closes it
unfoldable pub timed_at : Room → List StageForm → List Lexeme → Result (List StageForm × ℕ × List Lexeme) Stop
timed_at room front lexemes = do
  seconds ← seconds_at (after_stages positions.AfterSelector front) lexemes
  closed ← closed_at room front seconds.1
  Ok (closed.0, seconds.0, closed.1)

-- after a selector: stages and a range in brackets, whichever stand first, and the parenthesis
unfoldable pub closing_at : Room → List Lexeme → Result (List StageForm × ℕ × List Lexeme) Stop
closing_at room lexemes = do
  front ← stages_in room lexemes
  timed_at room front.0 front.1

-- the room inside one parenthesis more
abbrev pub deeper : (offset depth : ℕ) → Room → Result Room Stop
deeper offset zero room = Err (stop faults.TooDeep offset)
deeper offset (suc depth) room = Ok (record { depth = depth; stages = room.stages; tests = room.tests })

-- an opening parenthesis, and the room inside it
unfoldable pub opened_at : Position → Room → List Lexeme → Result (Room × List Lexeme) Stop
opened_at position room lexemes = do
  following ← expected signs.OpenParenthesis position lexemes
  inside ← deeper (offset_of lexemes) room.depth room
  Ok (inside, following)

-- a selector, stages and a range in parentheses
unfoldable pub range_at : Room → List Lexeme → Result (RangeForm × List Lexeme) Stop
range_at room lexemes = do
  opened ← opened_at positions.Elsewhere room lexemes
  braced ← expected signs.OpenBrace positions.Elsewhere opened.1
  matchers ← selector_at braced
  closing ← closing_at opened.0 matchers.1
  Ok (record { matchers = matchers.0; stages = closing.0; seconds = closing.1 }, closing.2)
