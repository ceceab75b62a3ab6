-- Reading label tests from their tokens: what is read, how many tests may still come and the tokens that follow it, or the first fault from the left.
use Rattle.std.specs.Prelude.{◌≡◌, ℕ, zero, suc, Bool, true, false, not, ◌&&◌, ◌||◌, List, [], ◌∷◌, Option, Some, None, is_some, Result, Ok, Err, if◌then◌else◌, codes}
use Rattle.std.specs.Option.{option_map_or}
use Rattle.rl_labels.specs.Name.{is_text, is_name}
use Rattle.rl_plain.specs.Answers.{◌>>=◌}
use Rattle.rl_selector_text.specs.declared.stop.Stop.{Stop}
use Rattle.rl_selector_text.specs.Stops.{stop, syntax, offset_of}
use Rattle.rl_query.specs.declared.fault.QueryFault.TheVariants as faults
use Rattle.rl_query.specs.declared.label_test.Join.{Join}
use Rattle.rl_query.specs.declared.label_test.Join.TheVariants.{And, Or}
use Rattle.rl_selector_text.specs.declared.front.Position.TheVariants as positions
use Rattle.rl_query.specs.declared.quantity_test.Comparison.{Comparison}
use Rattle.rl_query.specs.declared.quantity_test.Quantity.{Quantity}
use Rattle.rl_query.specs.declared.token.Lexeme.{Lexeme}
use Rattle.rl_query.specs.declared.token.Sign.TheVariants as signs
use Rattle.rl_query.specs.declared.token.Token.{Token}
use Rattle.rl_query.specs.declared.token.Token.TheVariants as tokens
use Rattle.rl_query.specs.Limits.{is_taken}
use Rattle.rl_selector_text.specs.Fronts.{is_joining_word, next, expected, refusal, is_sign, is_match, row_at, matcher_at}
use Rattle.rl_query.specs.Form.{QuantityForm, TestForm, by_text, by_quantity}
use Rattle.rl_query.specs.Quantities.{quantity_of}
use Rattle.rl_query.specs.Tables.{comparison_of}
use Rattle.rl_query.specs.TestTree.{TestTree, one, joined}

-- what is read: tests, how many may still come after them, and the tokens that follow
abbrev pub Read : Type 0
Read = TestTree TestForm × ℕ × List Lexeme

-- that, or the first fault
abbrev pub Reading : Type 0
Reading = Result Read Stop

-- how tests are read, where `left` may still come
abbrev pub Reader : Type 0
Reader = (left : ℕ) → List Lexeme → Reading

-- a token is the word
abbrev pub is_word : List ℕ → Token → Bool
is_word word (tokens.Word found) = is_text found word
is_word word _ = false

-- a token names a label
abbrev pub is_label : Token → Bool
is_label (tokens.Word word) = not (is_taken word)
is_label _ = false

abbrev pub label_at : ℕ → Token → Result (Unit {0}) Stop
label_at offset token = if is_label token then Ok tt else Err (refusal positions.Elsewhere offset token)

-- the first token names a label
abbrev pub label_comes : List Lexeme → Bool
label_comes [] = false
label_comes (lexeme ∷ lexemes) = is_label lexeme.token

-- one fewer may still come, where one may
abbrev pub one_fewer : (offset left : ℕ) → Result ℕ Stop
one_fewer offset zero = Err (stop faults.TooDeep offset)
one_fewer offset (suc fewer) = Ok fewer

-- the comparison that a token is
abbrev pub comparison_at : ℕ → Token → Result Comparison Stop
comparison_at offset (tokens.Sign sign) = option_map_or Ok (comparison_of sign) (Err (refusal positions.Elsewhere offset (tokens.Sign sign)))
comparison_at offset token = Err (refusal positions.Elsewhere offset token)

-- the quantity that a token is; LogQL has `ip(..)` there, and negative numbers
abbrev pub quantity_at : ℕ → Token → Result Quantity Stop
quantity_at offset (tokens.Number number) = option_map_or Ok (quantity_of number) (Err (syntax offset))
quantity_at offset token = Err (refusal positions.InTest offset token)

-- the test by quantity of its parts, where its name is one
abbrev pub named_test : (offset : ℕ) → QuantityForm → Result QuantityForm Stop
named_test offset test = if is_name test.name then Ok test else Err (syntax offset)

-- a name, a comparison and a quantity
unfoldable pub quantity_test_at : List Lexeme → Result (QuantityForm × List Lexeme) Stop
quantity_test_at lexemes = row_at comparison_at quantity_at (λ offset name comparison quantity. named_test offset (record { name = name; comparison = comparison; quantity = quantity })) lexemes

-- a token is a comparison
abbrev pub compares : Token → Bool
compares (tokens.Sign sign) = is_some (comparison_of sign)
compares _ = false

-- a token is a text
abbrev pub is_content : Token → Bool
is_content (tokens.Text content) = true
is_content _ = false

-- after a name a comparison comes: `=` and `!=` stand before a text in the tests of texts
abbrev pub quantity_comes : List Lexeme → Bool
quantity_comes (name ∷ sign ∷ value ∷ lexemes) = compares sign.token && not (is_content value.token && is_match sign.token)
quantity_comes _ = false

-- the test of a label's quantity, or of its text
unfoldable pub label_test_at : List Lexeme → Result (TestForm × List Lexeme) Stop
label_test_at lexemes =
    if quantity_comes lexemes then (quantity_test_at lexemes >>= λ test. Ok (by_quantity test.0, test.1))
    else (matcher_at lexemes >>= λ matcher. Ok (by_text matcher.0, matcher.1))

-- the test of a label, by its name, where one may still come
unfoldable pub test_at : Reader
test_at left lexemes = do
  first ← next lexemes
  label ← label_at first.0.offset first.0.token
  fewer ← one_fewer first.0.offset left
  test ← label_test_at lexemes
  Ok (one test.0, fewer, test.1)

-- tests and the parenthesis that closes them
unfoldable pub enclosed_at : (inside : Reader) → Reader
enclosed_at inside left lexemes = do
  tests ← inside left lexemes
  closed ← expected signs.CloseParenthesis positions.AfterInnerTests tests.2
  Ok (tests.0, tests.1, closed)

-- "(" tests ")", or the test of a label
unfoldable pub one_at : (inside : Reader) → Reader
one_at inside left lexemes = do
  first ← next lexemes
  if is_sign signs.OpenParenthesis first.0.token then enclosed_at inside left first.1 else test_at left lexemes

-- a token joins two by `and`
abbrev pub is_and : Token → Bool
is_and token = is_word (codes "and") token || is_sign signs.Comma token

-- the operator of a test comes
abbrev pub operator_comes : List Lexeme → Bool
operator_comes [] = false
operator_comes (lexeme ∷ lexemes) = is_match lexeme.token || compares lexeme.token

-- a token stands where a test begins; a word that joins tests in another case names a label only before an operator
abbrev pub begins : Token → (following : List Lexeme) → Bool
begins (tokens.Word word) following = not (is_text word (codes "or")) && (not (is_joining_word word) || operator_comes following)
begins token following = is_sign signs.OpenParenthesis token

-- the tokens of what `and` joins, if it joins more: after the word or a comma, or at once
abbrev pub after_and : List Lexeme → Option (List Lexeme)
after_and [] = None
after_and (lexeme ∷ lexemes) = if is_and lexeme.token then Some lexemes else (if begins lexeme.token lexemes then Some (lexeme ∷ lexemes) else None)

-- the tokens of what `or` joins, if it joins more
abbrev pub after_or : List Lexeme → Option (List Lexeme)
after_or [] = None
after_or (lexeme ∷ lexemes) = if is_word (codes "or") lexeme.token then Some lexemes else None

-- what follows tests, and joins nothing to them
abbrev pub IsEnd : List Lexeme → Type 0
IsEnd lexemes = (after_and lexemes ≡ None) × (after_or lexemes ≡ None)

abbrev pub after_join : Join → List Lexeme → Option (List Lexeme)
after_join And = after_and
after_join Or = after_or

-- what is joined to the tests that were read, at most `most` times
unfoldable pub others_at : Join → (part : Reader) → (most : ℕ) → TestTree TestForm → Reader
others_at join part zero tests left lexemes = Ok (tests, left, lexemes)
others_at join part (suc most) tests left lexemes =
    option_map_or (λ following. part left following >>= λ other. others_at join part most (joined join tests other.0) other.1 other.2) (after_join join lexemes) (Ok (tests, left, lexemes))

-- parts joined in one way. Each has a test at least, so there are no more of them than tests that may come
unfoldable pub joined_at : Join → (part : Reader) → Reader
joined_at join part left lexemes = do
  first ← part left lexemes
  others_at join part left first.0 first.1 first.2

-- what `and` joins, and what `or` joins
abbrev pub part_at : Join → (inside : Reader) → Reader
part_at And inside = one_at inside
part_at Or inside = joined_at And (one_at inside)

-- one {"and" one} {"or" one {"and" one}}
abbrev pub tests_in : (inside : Reader) → Reader
tests_in inside = joined_at Or (part_at Or inside)

-- tests in parentheses, `depth` of which may be opened within one another
abbrev pub inside_at : ℕ → Reader
inside_at zero left lexemes = Err (stop faults.TooDeep (offset_of lexemes))
inside_at (suc depth) left lexemes = tests_in (inside_at depth) left lexemes

-- tests in which `depth` parentheses may be opened within one another
abbrev pub tests_at : (depth : ℕ) → Reader
tests_at depth = tests_in (inside_at depth)
