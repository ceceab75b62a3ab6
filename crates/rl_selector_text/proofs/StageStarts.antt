-- The tokens with which label tests and stages begin.
use Rattle.std.proofs.Common.{drop, ◌≡◌, true, false, ◌||◌, List, [], ◌∷◌, codes, Some, is_some, Ok, refl, sym, ap, subst, ◌∙◌, ℕ}
use Rattle.std.proofs.Math.Bool.{and-false, or-true}
use Rattle.std.proofs.lemmas.Bool.{true≢false, false_from_ne_true, or_left, or_right}
use Rattle.rl_labels.specs.Name.{is_text}
use Rattle.rl_labels.specs.laws.LabelLaws.{same_text}
use Rattle.rl_labels.specs.declared.matcher.MatchOp.{MatchOp}
use Rattle.rl_labels.specs.declared.matcher.MatchOp.TheVariants as operators
use Rattle.rl_query.specs.declared.filter.LineOp.{LineOp}
use Rattle.rl_query.specs.declared.filter.LineOp.TheVariants as lines
use Rattle.rl_query.specs.declared.label_test.Join.{Join}
use Rattle.rl_query.specs.declared.token.Lexeme.{Lexeme}
use Rattle.rl_query.specs.declared.token.Sign.{Sign}
use Rattle.rl_query.specs.declared.token.Sign.TheVariants as signs
use Rattle.rl_query.specs.declared.token.Token.{Token}
use Rattle.rl_query.specs.declared.token.Token.TheVariants as tokens
use Rattle.rl_query.specs.Form.{StageForm, by_filter, by_tests, TestForm, by_text, by_quantity}
use Rattle.rl_query.specs.Limits.{is_taken}
use Rattle.rl_selector_text.specs.Fronts.{next, is_match}
use Rattle.rl_selector_text.specs.Grammar.{filter_sign, IsStage, AreChained}
use Rattle.rl_selector_text.specs.Parsing.{begins_stage, stage_comes, tests_begin}
use Rattle.rl_selector_text.specs.Standing.{Stand, operator_sign}
use Rattle.rl_selector_text.specs.TestGrammar.{Rule, test_name, Compares, IsLabelTest, IsOne, alone, in_parentheses, AreJoined, part, more, AreInside, AreTests}
use Rattle.rl_selector_text.specs.Testing.{IsEnd, is_word, is_and, begins, compares, after_and}
use Rattle.rl_query.specs.TestTree.{TestTree}
use Rattle.rl_selector_text.proofs.Productions.{placed, stood}
use Rattle.rl_selector_text.specs.Stops.{offset_of}

-- label tests begin there, whatever stands before them, and with no word of the grammar
pub record Starts (lexemes : List Lexeme) : Type 0 where
  pub first : Lexeme
  pub following : List Lexeme
  pub is : next lexemes ≡ Ok (first, following)
  pub goes_on : after_and lexemes ≡ Some lexemes
  pub free : (word : List ℕ) → is_taken word ≡ true → is_word word first.token ≡ false
  pub begin : tests_begin first.offset first.token following ≡ Ok tt

is_operator : (op : MatchOp) → is_match (tokens.Sign (operator_sign op)) ≡ true
is_operator operators.Equal = refl
is_operator _ = refl

-- the sign of a test is an operator or a comparison
sign_comes : (test : TestForm) (sign : Sign) (value : Token) → Compares test sign value → is_match (tokens.Sign sign) || compares (tokens.Sign sign) ≡ true
sign_comes (by_text m) sign value is = or_left (is_match (tokens.Sign sign)) _ (ap (λ s. is_match (tokens.Sign s)) is.0 ∙ is_operator m.op)
sign_comes (by_quantity t) sign value is = or_right (is_match (tokens.Sign sign)) _ (ap is_some is.0)

test_starts : (test : TestForm) (lexemes rest : List Lexeme) → IsLabelTest test lexemes rest → Starts lexemes
test_starts test lexemes rest is =
    let name = test_name test in
    let others = tokens.Sign is.sign ∷ is.value ∷ [] in
    let stands = stood (tokens.Word name ∷ others) lexemes rest is.stand in
    let comes = sign_comes test is.sign is.value is.compares in
    let free : (word : List ℕ) → is_taken word ≡ true → is_text name word ≡ false =
    λ word taken. false_from_ne_true _ (λ same. true≢false (sym taken ∙ ap is_taken (sym (same_text name word same)) ∙ is.free)) in
    record {
      first = record { token = tokens.Word name; offset = offset_of lexemes };
      following = placed others (drop 1 lexemes) rest;
      is = rw stands refl;
      goes_on = rw (stands, free (codes "and") refl, free (codes "or") refl, comes, or-true) refl;
      free = free;
      begin = rw (comes, and-false) refl;
    }

pub one_starts : (Inside : Rule) (tests : TestTree TestForm) (lexemes rest : List Lexeme) → IsOne Inside tests lexemes rest → Starts lexemes
one_starts Inside _ _ _ (alone test lexemes rest is) = test_starts test lexemes rest is
one_starts Inside _ _ _ (in_parentheses tests lexemes following end rest opened is closed) =
    let stands = stood (tokens.Sign signs.OpenParenthesis ∷ []) lexemes following opened in
    record { first = record { token = tokens.Sign signs.OpenParenthesis; offset = offset_of lexemes }; following = following; is = rw stands refl; goes_on = rw stands refl; free = λ _ _. refl; begin = refl }

joined_starts : (join : Join) (Part : Rule) → ((tests : TestTree TestForm) (lexemes rest : List Lexeme) → Part tests lexemes rest → Starts lexemes) → (tests : TestTree TestForm) (lexemes rest : List Lexeme) → AreJoined join Part tests lexemes rest → Starts lexemes
joined_starts join Part starts _ _ _ (part tests lexemes rest is) = starts tests lexemes rest is
joined_starts join Part starts _ _ _ (more l r lexemes middle following rest are joins is) = joined_starts join Part starts l lexemes middle are

pub tests_start : (depth : ℕ) (tests : TestTree TestForm) (lexemes rest : List Lexeme) → AreTests depth tests lexemes rest → Starts lexemes
tests_start depth tests lexemes rest are =
    joined_starts _ _ (joined_starts _ _ (one_starts (AreInside depth))) tests lexemes rest are

-- no test goes on with a token
pub no_more : (token : Token) (others : List Token) (lexemes rest : List Lexeme) → Stand (token ∷ others) lexemes rest → is_and token ≡ false → ((following : List Lexeme) → begins token following ≡ false) → is_word (codes "or") token ≡ false → IsEnd lexemes
no_more token others lexemes rest stand a b o = rw (stood (token ∷ others) lexemes rest stand, a, b, o) (refl, refl)

filter_ends : (op : LineOp) (others : List Token) (lexemes rest : List Lexeme) → Stand (tokens.Sign (filter_sign op) ∷ others) lexemes rest → IsEnd lexemes
filter_ends lines.Contains others lexemes rest stand = no_more (tokens.Sign signs.Contains) others lexemes rest stand refl (λ _. refl) refl
filter_ends op others lexemes rest stand = no_more (tokens.Sign (filter_sign op)) others lexemes rest stand refl (λ _. refl) refl

stage_ends : (depth : ℕ) (stage : StageForm) (lexemes rest : List Lexeme) → IsStage depth stage lexemes rest → IsEnd lexemes
stage_ends depth (by_filter f) lexemes rest is = filter_ends f.op (tokens.Text f.text ∷ []) lexemes rest is.0
stage_ends depth (by_tests t) lexemes rest is = no_more (tokens.Sign signs.Pipe) [] lexemes is.following is.pipe refl (λ _. refl) refl
stage_ends depth _ lexemes rest is = no_more (tokens.Sign signs.Pipe) (_ ∷ []) lexemes rest is refl (λ _. refl) refl

-- tests end where stages begin
pub chain_ends : (depth : ℕ) (stages : List StageForm) (lexemes rest : List Lexeme) → AreChained depth stages lexemes rest → IsEnd rest → IsEnd lexemes
chain_ends depth [] lexemes rest are end = subst IsEnd (sym are) end
chain_ends depth (s ∷ stages) lexemes rest are end = stage_ends depth s lexemes are.0 are.1

-- no stage comes, and tests end
pub record Ends (lexemes : List Lexeme) : Type 0 where
  pub comes : stage_comes lexemes ≡ Ok false
  pub end : IsEnd lexemes

pub ends_at : (token : Token) (others : List Token) (lexemes rest : List Lexeme) → Stand (token ∷ others) lexemes rest → begins_stage token ≡ false → is_and token ≡ false → ((following : List Lexeme) → begins token following ≡ false) → is_word (codes "or") token ≡ false → Ends lexemes
ends_at token others lexemes rest stand s a b o =
    record { comes = rw (stood (token ∷ others) lexemes rest stand, s) refl; end = no_more token others lexemes rest stand a b o }
