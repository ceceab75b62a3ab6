-- The grammar of label tests, over their tokens and apart from how they are read. Each rule relates tests, tokens and those that follow.
use Rattle.std.specs.Prelude.{◌≡◌, ◌⊎◌, ℕ, zero, suc, true, false, List, [], ◌∷◌, length, Some, codes}
use Rattle.rl_labels.specs.Name.{is_name}
use Rattle.rl_labels.specs.Operators.{is_comparable}
use Rattle.rl_query.specs.declared.label_test.Join.{Join}
use Rattle.rl_query.specs.declared.label_test.Join.TheVariants.{And, Or}
use Rattle.rl_query.specs.declared.token.Lexeme.{Lexeme}
use Rattle.rl_query.specs.declared.token.Sign.{Sign}
use Rattle.rl_query.specs.declared.token.Sign.TheVariants as signs
use Rattle.rl_query.specs.declared.token.Token.{Token}
use Rattle.rl_query.specs.declared.token.Token.TheVariants as tokens
use Rattle.rl_query.specs.Form.{TestForm, by_text, by_quantity}
use Rattle.rl_selector_text.specs.Standing.{Stand, operator_sign}
use Rattle.rl_query.specs.Limits.{is_taken}
use Rattle.rl_query.specs.Quantities.{quantity_of}
use Rattle.rl_query.specs.Tables.{comparison_of}
use Rattle.rl_query.specs.TestTree.{TestTree, one, joined}

-- tests, their tokens, and those that follow
abbrev pub Rule : Type 1
Rule = TestTree TestForm → List Lexeme → List Lexeme → Type 0

abbrev pub test_name : TestForm → List ℕ
test_name (by_text matcher) = matcher.name
test_name (by_quantity test) = test.name

-- what follows the name: ="value", or another operator; >quantity, or another comparison
abbrev pub Compares : TestForm → Sign → Token → Type 0
Compares (by_text matcher) sign value = (sign ≡ operator_sign matcher.op) × (value ≡ tokens.Text matcher.value) × (is_comparable matcher.op matcher.value ≡ true)
Compares (by_quantity test) sign value = (comparison_of sign ≡ Some test.comparison) × ((number : List ℕ) × (value ≡ tokens.Number number) × (quantity_of number ≡ Some test.quantity))

-- a name that is no word of the grammar, a sign and a value
pub record IsLabelTest (test : TestForm) (lexemes rest : List Lexeme) : Type 0 where
  pub sign : Sign
  pub value : Token
  pub stand : Stand (tokens.Word (test_name test) ∷ tokens.Sign sign ∷ value ∷ []) lexemes rest
  pub compares : Compares test sign value
  pub named : is_name (test_name test) ≡ true
  pub free : is_taken (test_name test) ≡ false

-- the test of a label, or "(" tests ")"
pub data IsOne (Inside : Rule) : TestTree TestForm → List Lexeme → List Lexeme → Type 0 where
  alone : (test : TestForm) (lexemes rest : List Lexeme) → IsLabelTest test lexemes rest → IsOne Inside (one test) lexemes rest
  in_parentheses : (tests : TestTree TestForm) (lexemes following end rest : List Lexeme) → Stand (tokens.Sign signs.OpenParenthesis ∷ []) lexemes following → Inside tests following end → Stand (tokens.Sign signs.CloseParenthesis ∷ []) end rest → IsOne Inside tests lexemes rest

-- what stands between two tests: "and", a comma or nothing, and "or"
abbrev pub Joins : Join → List Lexeme → List Lexeme → Type 0
Joins And lexemes rest = Stand (tokens.Word (codes "and") ∷ []) lexemes rest ⊎ (Stand (tokens.Sign signs.Comma ∷ []) lexemes rest ⊎ (lexemes ≡ rest))
Joins Or lexemes rest = Stand (tokens.Word (codes "or") ∷ []) lexemes rest

-- a part, or parts and what joins one part more to them
pub data AreJoined (join : Join) (Part : Rule) : TestTree TestForm → List Lexeme → List Lexeme → Type 0 where
  part : (tests : TestTree TestForm) (lexemes rest : List Lexeme) → Part tests lexemes rest → AreJoined join Part tests lexemes rest
  more : (left right : TestTree TestForm) (lexemes middle following rest : List Lexeme) → AreJoined join Part left lexemes middle → Joins join middle following → Part right following rest → AreJoined join Part (joined join left right) lexemes rest

-- what `or` joins is what `and` joins
abbrev pub AreTestsIn : (Inside : Rule) → Rule
AreTestsIn Inside = AreJoined Or (AreJoined And (IsOne Inside))

-- tests in parentheses, at most `depth` of which are open within one another
abbrev pub AreInside : (depth : ℕ) → Rule
AreInside zero tests lexemes rest = ⊥
AreInside (suc depth) tests lexemes rest = AreTestsIn (AreInside depth) tests lexemes rest

-- tests in which at most `depth` parentheses are open within one another
abbrev pub AreTests : (depth : ℕ) → Rule
AreTests depth = AreTestsIn (AreInside depth)

-- the end of a text, which follows its tokens
abbrev pub ended : List ℕ → List Lexeme
ended bytes = record { token = tokens.End; offset = length bytes } ∷ []
