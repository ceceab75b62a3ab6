-- Reading a query from its tokens: what is read and the tokens that follow it, or the first fault from the left.
use Rattle.std.specs.List.{list_any}
use Rattle.std.specs.Prelude.{not, Some, None, ℕ, zero, suc, Bool, true, false, ◌&&◌, ◌||◌, List, [], ◌∷◌, length, Option, is_some, Result, Ok, Err, if◌then◌else◌, codes}
use Rattle.rl_selector_text.specs.Fronts.{is_in_any_case, refusal, is_sign, next, matcher_at}
use Rattle.rl_selector_text.specs.Testing.{operator_comes, tests_at}
use Rattle.rl_query.specs.Limits.{is_filter}
use Rattle.rl_query.specs.Form.{by_tests, MatcherForm, FilterForm, StageForm, by_filter, by_parser, has_real_form, parses}
use Rattle.std.specs.Option.{option_map_or}
use Rattle.rl_labels.specs.Name.{is_text}
use Rattle.rl_selector_text.specs.declared.stop.Stop.{Stop}
use Rattle.rl_selector_text.specs.Stops.{stop, syntax, unsupported, offset_of}
use Rattle.rl_query.specs.declared.fault.QueryFault.TheVariants as faults
use Rattle.rl_query.specs.declared.filter.LineOp.{LineOp}
use Rattle.rl_query.specs.declared.filter.LineOp.TheVariants as lines
use Rattle.rl_selector_text.specs.declared.front.Position.{Position}
use Rattle.rl_selector_text.specs.declared.front.Position.TheVariants as positions
use Rattle.rl_query.specs.declared.stages.Parser.{Parser}
use Rattle.rl_query.specs.declared.stages.Parser.TheVariants as parsers
use Rattle.rl_selector_text.specs.declared.room.Room.{Room}
use Rattle.rl_query.specs.declared.token.Sign.{Sign}
use Rattle.rl_query.specs.declared.token.Sign.TheVariants as signs
use Rattle.rl_query.specs.declared.token.Lexeme.{Lexeme}
use Rattle.rl_query.specs.declared.token.Token.{Token}
use Rattle.rl_query.specs.declared.token.Token.TheVariants as tokens
use Rattle.rl_plain.specs.Answers.{◌>>=◌}

-- after a matcher: whether another follows
abbrev pub goes_on : ℕ → Token → Result Bool Stop
goes_on offset token = if is_sign signs.Comma token then Ok true else (if is_sign signs.CloseBrace token then Ok false else Err (refusal positions.Elsewhere offset token))

-- a matcher, and whether another follows
unfoldable pub item_at : List Lexeme → Result (MatcherForm × Bool × List Lexeme) Stop
item_at lexemes = do
  matcher ← matcher_at lexemes
  lexeme ← next matcher.1
  more ← goes_on lexeme.0.offset lexeme.0.token
  Ok (matcher.0, more, lexeme.1)

-- at most `most` items joined by commas, up to what closes them; each says whether another follows
unfoldable pub listed_at : {A : Type 0} → (item : List Lexeme → Result (A × Bool × List Lexeme) Stop) → ℕ → List Lexeme → Result (List A × List Lexeme) Stop
listed_at item zero lexemes = Err (syntax 0)
listed_at item (suc most) lexemes = do
  first ← item lexemes
  if first.1 then (listed_at item most first.2 >>= λ others. Ok (first.0 ∷ others.0, others.1)) else Ok (first.0 ∷ [], first.2)

-- the matchers of a selector
abbrev pub matchers_at : ℕ → List Lexeme → Result (List MatcherForm × List Lexeme) Stop
matchers_at = listed_at item_at

-- a selector that closes at once has no matcher
abbrev pub some_matcher : ℕ → Token → Result (Unit {0}) Stop
some_matcher offset token = if is_sign signs.CloseBrace token then Err (stop faults.NoRealMatcher offset) else Ok tt

-- matchers of which one at least refuses the empty text
abbrev pub real_matchers : (offset : ℕ) → List MatcherForm → Result (List MatcherForm) Stop
real_matchers offset matchers = if has_real_form matchers then Ok matchers else Err (stop faults.NoRealMatcher offset)

-- after the opening brace: the matchers of a selector
unfoldable pub selector_at : List Lexeme → Result (List MatcherForm × List Lexeme) Stop
selector_at lexemes = do
  lexeme ← next lexemes
  some ← some_matcher lexeme.0.offset lexeme.0.token
  found ← matchers_at (length lexemes) lexemes
  matchers ← real_matchers (offset_of found.1) found.0
  Ok (matchers, found.1)

-- the line filter that a sign begins
abbrev pub filter_of : Sign → Option LineOp
filter_of signs.Contains = Some lines.Contains
filter_of signs.NotEqual = Some lines.Lacks
filter_of signs.ContainsMatch = Some lines.Matches
filter_of signs.NotMatches = Some lines.NotMatches
filter_of _ = None

abbrev pub filter_op : Token → Option LineOp
filter_op (tokens.Sign sign) = filter_of sign
filter_op _ = None

-- the text of a line filter; LogQL has words there too
abbrev pub filter_text : ℕ → Token → Result (List ℕ) Stop
filter_text offset (tokens.Text text) = Ok text
filter_text offset token = Err (refusal positions.InFilter offset token)

-- what is looked for by a pattern has to be one
abbrev pub checked_filter : ℕ → FilterForm → Result FilterForm Stop
checked_filter offset filter = if is_filter filter.op filter.text then Ok filter else Err (stop faults.BadRegex offset)

-- the text of a line filter, after its sign
unfoldable pub filter_at : LineOp → List Lexeme → Result (FilterForm × List Lexeme) Stop
filter_at op lexemes = do
  text ← next lexemes
  value ← filter_text text.0.offset text.0.token
  filter ← checked_filter text.0.offset (record { op = op; text = value })
  Ok (filter, text.1)

-- at most `most` line filters
unfoldable pub filters_at : ℕ → List Lexeme → Result (List FilterForm × List Lexeme) Stop
filters_at zero lexemes = do
  first ← next lexemes
  if is_some (filter_op first.0.token) then Err (stop faults.TooDeep first.0.offset) else Ok ([], lexemes)
filters_at (suc most) lexemes = do
  first ← next lexemes
  option_map_or (λ op. filter_at op first.1 >>= λ filter. filters_at most filter.1 >>= λ others. Ok (filter.0 ∷ others.0, others.1)) (filter_op first.0.token) (Ok ([], lexemes))

-- a token begins a stage: a line filter, or what follows a pipe
abbrev pub begins_stage : Token → Bool
begins_stage token = is_some (filter_op token) || is_sign signs.Pipe token

-- whether a stage comes
abbrev pub stage_comes : List Lexeme → Result Bool Stop
stage_comes lexemes = next lexemes >>= λ first. Ok (begins_stage first.0.token)

-- the parser that a token names
abbrev pub named_parser : List ℕ → Option Parser
named_parser word = if is_text word (codes "json") then Some parsers.Json else (if is_text word (codes "logfmt") then Some parsers.Logfmt else None)

abbrev pub parser_of : Token → Option Parser
parser_of (tokens.Word word) = named_parser word
parser_of _ = None

-- a parser comes once
abbrev pub only_parser : ℕ → (parsed : Bool) → Parser → Result Parser Stop
only_parser offset parsed parser = if parsed then Err (stop faults.TwoParsers offset) else Ok parser

-- the words that begin a stage in LogQL
abbrev pub later_stages : List (List ℕ)
later_stages =
    codes "json" ∷ codes "logfmt" ∷ codes "line_format" ∷ codes "label_format" ∷ codes "pattern" ∷ codes "regexp" ∷ codes "unpack" ∷
    codes "drop" ∷ codes "keep" ∷ codes "decolorize" ∷ codes "unwrap" ∷ codes "distinct" ∷ []

abbrev pub is_later_stage_word : List ℕ → Bool
is_later_stage_word word = list_any (λ later. is_in_any_case later word) later_stages

-- label tests begin with a word or a parenthesis; a word of LogQL's names a label only before an operator
abbrev pub word_begins : ℕ → List ℕ → List Lexeme → Result (Unit {0}) Stop
word_begins offset word lexemes = if is_later_stage_word word && not (operator_comes lexemes) then Err (unsupported offset) else Ok tt

abbrev pub parenthesis_begins : ℕ → Token → Result (Unit {0}) Stop
parenthesis_begins offset token = if is_sign signs.OpenParenthesis token then Ok tt else Err (refusal positions.Elsewhere offset token)

abbrev pub tests_begin : ℕ → Token → List Lexeme → Result (Unit {0}) Stop
tests_begin offset (tokens.Word word) lexemes = word_begins offset word lexemes
tests_begin offset token lexemes = parenthesis_begins offset token

-- label tests after their pipe, how many may still come, and the tokens that follow
unfoldable pub tested_at : (depth left : ℕ) → List Lexeme → Result (StageForm × ℕ × List Lexeme) Stop
tested_at depth left lexemes = do
  first ← next lexemes
  begin ← tests_begin first.0.offset first.0.token first.1
  tests ← tests_at depth left lexemes
  Ok (by_tests tests.0, tests.1, tests.2)

-- a parser or label tests, after the pipe
unfoldable pub piped_at : (parsed : Bool) (depth left : ℕ) → List Lexeme → Result (StageForm × ℕ × List Lexeme) Stop
piped_at parsed depth left lexemes = do
  first ← next lexemes
  option_map_or (λ parser. only_parser first.0.offset parsed parser >>= λ only. Ok (by_parser only, left, first.1)) (parser_of first.0.token) (tested_at depth left lexemes)

-- a stage, where one comes, and how many label tests may still come after it
unfoldable pub stage_at : (parsed : Bool) (depth left : ℕ) → List Lexeme → Result (StageForm × ℕ × List Lexeme) Stop
stage_at parsed depth left lexemes = do
  sign ← next lexemes
  option_map_or (λ op. filter_at op sign.1 >>= λ filter. Ok (by_filter filter.0, left, filter.1)) (filter_op sign.0.token) (piped_at parsed depth left sign.1)

-- at most `most` stages, where a parser was read before or not, and `left` label tests may come
unfoldable pub stages_at : (parsed : Bool) (depth left most : ℕ) → List Lexeme → Result (List StageForm × List Lexeme) Stop
stages_at parsed depth left zero lexemes = do
  more ← stage_comes lexemes
  if more then Err (stop faults.TooDeep (offset_of lexemes)) else Ok ([], lexemes)
stages_at parsed depth left (suc most) lexemes = do
  more ← stage_comes lexemes
  if more then (stage_at parsed depth left lexemes >>= λ stage. stages_at (parsed || parses stage.0) depth stage.1 most stage.2 >>= λ others. Ok (stage.0 ∷ others.0, others.1)) else Ok ([], lexemes)

-- stages, no more than there is room for
abbrev pub stages_in : Room → List Lexeme → Result (List StageForm × List Lexeme) Stop
stages_in room lexemes = stages_at false room.depth room.tests room.stages lexemes

abbrev pub after_stage : StageForm → Position
after_stage (by_filter filter) = positions.AfterFilter
after_stage (by_parser parser) = positions.AfterParser
after_stage (by_tests tests) = positions.AfterTests

-- the position after the last stage, or where there is none that before the stages
abbrev pub after_stages : Position → List StageForm → Position
after_stages position [] = position
after_stages position (stage ∷ stages) = after_stages (after_stage stage) stages
