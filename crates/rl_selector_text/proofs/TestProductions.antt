-- The productions of label tests: what is read is derived.
use Rattle.std.proofs.Common.{◌≡◌, inl, inr, ⊎_elim, ℕ, zero, suc, ◌+◌, true, List, [], ◌∷◌, codes, Some, Ok, sym, ap, arith}
use Rattle.std.proofs.lemmas.Bool.{or_cases}
use Rattle.std.proofs.lemmas.Option.{cond_some, none-some, same_Some}
use Rattle.rl_labels.specs.laws.LabelLaws.{same_text}
use Rattle.rl_query.specs.declared.label_test.Join.{Join}
use Rattle.rl_query.specs.declared.label_test.Join.TheVariants.{And, Or}
use Rattle.rl_selector_text.specs.declared.front.Position.TheVariants as positions
use Rattle.rl_query.specs.declared.token.Lexeme.{Lexeme}
use Rattle.rl_query.specs.declared.token.Sign.TheVariants as signs
use Rattle.rl_query.specs.declared.token.Token.{Token}
use Rattle.rl_query.specs.declared.token.Token.TheVariants as tokens
use Rattle.rl_selector_text.specs.Fronts.{next, is_sign}
use Rattle.rl_query.specs.Form.{TestForm}
use Rattle.rl_selector_text.specs.TestGrammar.{Rule, IsOne, alone, in_parentheses, Joins, AreJoined, part, more, AreInside, AreTests}
use Rattle.rl_selector_text.specs.Testing.{Read, Reader, is_word, label_at, one_fewer, test_at, enclosed_at, one_at, is_and, begins, after_join, others_at, joined_at, inside_at, tests_at}
use Rattle.rl_query.specs.TestTree.{TestTree, joined, count_tests}
use Rattle.rl_selector_text.proofs.FreeNames.{label_first}
use Rattle.rl_selector_text.proofs.Finding.{Finds, found, fault, itself, then, by_test, of_option, next_found, stands_as}
use Rattle.rl_selector_text.proofs.Productions.{chosen, expected_found, only_sign}
use Rattle.rl_selector_text.proofs.QuantityProductions.{label_test_found}

-- what was read is derived, and each of its tests was one of those that might come
abbrev pub IsRead : Rule → ℕ → List Lexeme → Read → Type 0
IsRead Part left lexemes read = Part read.0 lexemes read.2 × (count_tests read.0 + read.1 ≡ left)

-- what is read is derived
abbrev pub IsSound : Reader → Rule → Type 0
IsSound reader Part = (left : ℕ) (lexemes : List Lexeme) → Finds (IsRead Part left lexemes) (reader left lexemes)

pub only_word : (word : List ℕ) (t : Token) → is_word word t ≡ true → t ≡ tokens.Word word
only_word word (tokens.Word found) h = ap tokens.Word (same_text found word h)
only_word word _ h = cc

pub fewer_found : (offset left : ℕ) → Finds (λ fewer. 1 + fewer ≡ left) (one_fewer offset left)
fewer_found offset zero = fault
fewer_found offset (suc left) = found (omega arith)

test_sound : (Inside : Rule) → IsSound test_at (IsOne Inside)
unfolding test_at
test_sound Inside left lexemes =
    then _ (itself (next lexemes)) (λ first n.
    then _ (itself (label_at first.0.offset first.0.token)) (λ _ label.
    then _ (fewer_found first.0.offset left) (λ fewer count.
    then _ (label_test_found lexemes (label_first lexemes first.1 first.0 n (sym label))) (λ test is.
    found (alone test.0 lexemes test.1 is, count)))))

one_sound : (inside : Reader) (Inside : Rule) → IsSound inside Inside → IsSound (one_at inside) (IsOne Inside)
unfolding one_at enclosed_at
one_sound inside Inside sound left lexemes = then _ (next_found lexemes) (λ first stand. by_test (is_sign signs.OpenParenthesis first.0.token)
    (λ opens. then _ (sound left first.1) (λ tests are.
    then _ (expected_found signs.CloseParenthesis positions.AfterInnerTests tests.2) (λ rest closed.
    found (in_parentheses tests.0 lexemes first.1 tests.2 rest (stands_as lexemes first.1 (only_sign signs.OpenParenthesis first.0.token opens) stand) are.0 closed, are.1))))
    (λ _. test_sound Inside left lexemes))

joins_read : (join : Join) (lexemes following : List Lexeme) → after_join join lexemes ≡ Some following → Joins join lexemes following
joins_read And [] following h = absurd (none-some following h)
joins_read Or [] following h = absurd (none-some following h)
joins_read And (l ∷ lexemes) following h =
    ⊎_elim
    (λ by_and. ⊎_elim (λ word. inl (only_word (codes "and") l.token word, same_Some _ _ by_and.1)) (λ comma. inr (inl (only_sign signs.Comma l.token comma, same_Some _ _ by_and.1))) (or_cases _ _ by_and.0))
    (λ other. inr (inr (cond_some (begins l.token lexemes) _ following other.1).1))
    (chosen (is_and l.token) _ _ (Some following) h)
joins_read Or (l ∷ lexemes) following h = let found = cond_some (is_word (codes "or") l.token) lexemes following h in (only_word (codes "or") l.token found.0, found.1)

others_sound : (join : Join) (reader : Reader) (Part : Rule) → IsSound reader Part → (most : ℕ) (tests : TestTree TestForm) (left all : ℕ) (start lexemes : List Lexeme) → AreJoined join Part tests start lexemes → count_tests tests + left ≡ all → Finds (IsRead (AreJoined join Part) all start) (others_at join reader most tests left lexemes)
unfolding others_at
others_sound join reader Part sound zero tests left all start lexemes are count = found (are, count)
others_sound join reader Part sound (suc most) tests left all start lexemes are count = of_option _ (after_join join lexemes)
    (λ following joins. then _ (sound left following) (λ other is. others_sound join reader Part sound most (joined join tests other.0) other.1 all start other.2 (more tests other.0 start lexemes following other.2 are (joins_read join lexemes following joins) is.0) (omega (arith, is.1, count))))
    (λ _. found (are, count))

joined_sound : (join : Join) (reader : Reader) (Part : Rule) → IsSound reader Part → IsSound (joined_at join reader) (AreJoined join Part)
unfolding joined_at
joined_sound join reader Part sound left lexemes = then _ (sound left lexemes) (λ first is. others_sound join reader Part sound left first.0 first.1 left lexemes first.2 (part first.0 lexemes first.2 is.0) is.1)

inside_sound : (depth : ℕ) → IsSound (inside_at depth) (AreInside depth)
inside_sound zero = λ left lexemes. fault
inside_sound (suc depth) = joined_sound Or _ _ (joined_sound And _ _ (one_sound _ _ (inside_sound depth)))

-- what is read is derived, and takes no more tests than may come
pub tests_found : (depth : ℕ) → IsSound (tests_at depth) (AreTests depth)
tests_found depth = inside_sound (suc depth)

pub tests_derived : (depth left : ℕ) (lexemes : List Lexeme) (tests : TestTree TestForm) (fewer : ℕ) (rest : List Lexeme) → tests_at depth left lexemes ≡ Ok (tests, fewer, rest) → AreTests depth tests lexemes rest × (count_tests tests + fewer ≡ left)
tests_derived depth left lexemes tests fewer rest h = (tests_found depth left lexemes).is (tests, fewer, rest) h
