-- The production of the test of a label: what is read is derived, and what is derived is read.
use Rattle.std.proofs.Common.{◌≡◌, ℕ, true, false, not, ◌&&◌, List, [], ◌∷◌, Some, Ok, refl, subst}
use Rattle.std.proofs.lemmas.Bool.{and_parts, and_from, not-true}
use Rattle.rl_labels.specs.Name.{is_name}
use Rattle.rl_labels.specs.Operators.{is_comparable}
use Rattle.rl_labels.specs.declared.matcher.MatchOp.{MatchOp}
use Rattle.rl_labels.specs.declared.matcher.MatchOp.TheVariants as operators
use Rattle.rl_query.specs.declared.token.Lexeme.{Lexeme}
use Rattle.rl_query.specs.declared.token.Sign.{Sign}
use Rattle.rl_query.specs.declared.token.Token.{Token}
use Rattle.rl_query.specs.declared.token.Token.TheVariants as tokens
use Rattle.rl_query.specs.Form.{MatcherForm, TestForm, by_text, by_quantity}
use Rattle.rl_selector_text.specs.Fronts.{is_match}
use Rattle.rl_query.specs.Limits.{is_taken}
use Rattle.rl_query.specs.Quantities.{quantity_of}
use Rattle.rl_selector_text.specs.Standing.{Stand, matcher_tokens, operator_sign}
use Rattle.rl_query.specs.Tables.{comparison_of}
use Rattle.rl_selector_text.specs.TestGrammar.{IsLabelTest}
use Rattle.rl_selector_text.specs.Testing.{label_comes, compares, comparison_at, quantity_at, quantity_test_at, quantity_comes, label_test_at}
use Rattle.rl_selector_text.proofs.FreeNames.{free_name}
use Rattle.rl_selector_text.proofs.Finding.{Finds, found, fault, then, by_test, of_option}
use Rattle.rl_selector_text.proofs.Productions.{stood, IsMatcher, row_found, matcher_found, matcher_is}

comparison_found : (offset : ℕ) (t : Token) → Finds (λ c. (sign : Sign) × (t ≡ tokens.Sign sign) × (comparison_of sign ≡ Some c)) (comparison_at offset t)
comparison_found offset (tokens.Sign sign) = of_option Ok (comparison_of sign) (λ c is. found (sign, refl, is)) (λ _. fault)
comparison_found offset _ = fault

quantity_found : (offset : ℕ) (t : Token) → Finds (λ q. (number : List ℕ) × (t ≡ tokens.Number number) × (quantity_of number ≡ Some q)) (quantity_at offset t)
quantity_found offset (tokens.Number number) = of_option Ok (quantity_of number) (λ q is. found (number, refl, is)) (λ _. fault)
quantity_found offset _ = fault

quantity_test_found : (lexemes : List Lexeme) → label_comes lexemes ≡ true → Finds (λ x. IsLabelTest (by_quantity x.0) lexemes x.1) (quantity_test_at lexemes)
unfolding quantity_test_at
quantity_test_found lexemes label = row_found {Q = λ x. IsLabelTest (by_quantity x.0) lexemes x.1} comparison_at quantity_at _ lexemes comparison_found quantity_found (λ offset name sign content op value rest stand sign_is number.
    let there = subst (λ ts. Stand ts lexemes rest) (λ i. tokens.Word name ∷ sign_is.1 i ∷ number.1 i ∷ []) stand in
    let free = not-true (is_taken name) (free_name name (tokens.Sign sign_is.0 ∷ tokens.Number number.0 ∷ []) lexemes rest there label) in
    by_test (is_name name) (λ named. found (record { sign = sign_is.0; value = tokens.Number number.0; stand = there; compares = (sign_is.2, (number.0, refl, number.2)); named = named; free = free })) (λ _. fault))

matcher_test : (lexemes : List Lexeme) (m : MatcherForm) (rest : List Lexeme) → label_comes lexemes ≡ true → IsMatcher m lexemes rest → IsLabelTest (by_text m) lexemes rest
matcher_test lexemes m rest label is =
    let parts = and_parts (is_name m.name) (is_comparable m.op m.value) is.proper in
    record { sign = operator_sign m.op; value = tokens.Text m.value; stand = is.stand; compares = (refl, refl, parts.1); named = parts.0; free = not-true (is_taken m.name) (free_name m.name (tokens.Sign (operator_sign m.op) ∷ tokens.Text m.value ∷ []) lexemes rest is.stand label) }

-- the test of a label that was read is derived
pub label_test_found : (lexemes : List Lexeme) → label_comes lexemes ≡ true → Finds (λ x. IsLabelTest x.0 lexemes x.1) (label_test_at lexemes)
unfolding label_test_at
label_test_found lexemes label = by_test (quantity_comes lexemes) (λ _. then _ (quantity_test_found lexemes label) (λ test is. found is)) (λ _. then _ (matcher_found lexemes) (λ m is. found (matcher_test lexemes m.0 m.1 label is)))

no_comparison : (op : MatchOp) → compares (tokens.Sign (operator_sign op)) && not (is_match (tokens.Sign (operator_sign op))) ≡ false
no_comparison operators.Equal = refl
no_comparison _ = refl

-- the test of a label that is derived is read
pub label_test_is : (test : TestForm) (lexemes rest : List Lexeme) → IsLabelTest test lexemes rest → label_test_at lexemes ≡ Ok (test, rest)
unfolding label_test_at quantity_test_at
label_test_is (by_text m) lexemes rest is =
    let stand = subst (λ ts. Stand ts lexemes rest) (λ i. tokens.Word m.name ∷ tokens.Sign (is.compares.0 i) ∷ is.compares.1 i ∷ []) is.stand in
    let none : quantity_comes lexemes ≡ false = rw (stood (matcher_tokens m) lexemes rest stand) (no_comparison m.op) in
    rw (none, matcher_is m lexemes rest stand (and_from (is_name m.name) _ is.named is.compares.2)) refl
label_test_is (by_quantity test) lexemes rest is = rw (stood (tokens.Word test.name ∷ tokens.Sign is.sign ∷ is.value ∷ []) lexemes rest is.stand, is.compares.1.1, is.compares.0, is.compares.1.2, is.named) refl
