-- The productions of label tests: what is derived is read.
use Rattle.std.proofs.Common.{◌≡◌, codes, inl, inr, ℕ, zero, suc, ◌+◌, ◌≤◌, List, [], ◌∷◌, Some, None, Ok, refl, ap, ◌∙◌, arith}
use Rattle.rl_query.specs.declared.label_test.Join.{Join}
use Rattle.rl_query.specs.declared.label_test.Join.TheVariants.{And, Or}
use Rattle.rl_selector_text.specs.declared.front.Position.TheVariants as positions
use Rattle.rl_query.specs.declared.token.Lexeme.{Lexeme}
use Rattle.rl_query.specs.declared.token.Sign.TheVariants as signs
use Rattle.rl_query.specs.declared.token.Token.TheVariants as tokens
use Rattle.rl_query.specs.Form.{TestForm}
use Rattle.rl_selector_text.specs.TestGrammar.{Rule, test_name, IsOne, alone, in_parentheses, Joins, AreJoined, part, more, AreInside, AreTests}
use Rattle.rl_selector_text.specs.Testing.{IsEnd, Reading, Reader, test_at, enclosed_at, one_at, after_and, after_join, others_at, joined_at, inside_at, tests_at}
use Rattle.rl_query.specs.TestTree.{TestTree, one, joined, count_tests}
use Rattle.rl_selector_text.proofs.StageStarts.{one_starts, no_more}
use Rattle.rl_selector_text.proofs.Productions.{next_is, stood, expected_is}
use Rattle.rl_selector_text.proofs.QuantityProductions.{label_test_is}

-- what is derived is read, where what follows ends it
abbrev pub IsComplete : Reader → Rule → (Ends : List Lexeme → Type 0) → Type 0
IsComplete reader Part Ends = (tests : TestTree TestForm) (lexemes rest : List Lexeme) (left fewer : ℕ) → Part tests lexemes rest → Ends rest → count_tests tests + fewer ≡ left → reader left lexemes ≡ Ok (tests, fewer, rest)

-- what a part is joined by is found, and ends what stands before it
abbrev JoinsAre : Join → Rule → (Ends : List Lexeme → Type 0) → Type 0
JoinsAre join Part Ends = (right : TestTree TestForm) (middle following rest : List Lexeme) → Joins join middle following → Part right following rest → (after_join join middle ≡ Some following) × Ends middle

and_joins : (Inside : Rule) → JoinsAre And (IsOne Inside) (λ _. Unit {0})
and_joins Inside right middle following rest (inl joins) is = (rw (stood (tokens.Word (codes "and") ∷ []) middle following joins) refl, tt)
and_joins Inside right middle following rest (inr (inl joins)) is = (rw (stood (tokens.Sign signs.Comma ∷ []) middle following joins) refl, tt)
and_joins Inside right middle following rest (inr (inr joins)) is = (ap after_and joins ∙ (one_starts Inside right following rest is).goes_on, tt)

or_joins : (Inside : Rule) → JoinsAre Or (AreJoined And (IsOne Inside)) (λ rest. Unit {0} × (after_join And rest ≡ None))
or_joins Inside right middle following rest joins is = let stands = stood (tokens.Word (codes "or") ∷ []) middle following joins in (rw stands refl, (tt, rw stands refl))

some_test : (tests : TestTree TestForm) → 1 ≤ count_tests tests
some_test (one test) = omega arith
some_test (joined join l r) = omega (arith, some_test l)

-- nothing is joined, however often it may be
stops : (join : Join) (reader : Reader) (most : ℕ) (tests : TestTree TestForm) (left : ℕ) (lexemes : List Lexeme) → after_join join lexemes ≡ None → others_at join reader most tests left lexemes ≡ Ok (tests, left, lexemes)
unfolding others_at
stops join reader zero tests left lexemes none = refl
stops join reader (suc most) tests left lexemes none = rw none refl

-- what is read of parts is what is read after them, where no fewer may be joined than tests may still come
chain : (join : Join) (reader : Reader) (Part : Rule) (Ends : List Lexeme → Type 0) → IsComplete reader Part Ends → JoinsAre join Part Ends → (tests : TestTree TestForm) (lexemes rest : List Lexeme) (left fewer : ℕ) (whole : Reading) → AreJoined join Part tests lexemes rest → Ends rest
    → count_tests tests + fewer ≡ left → ((most : ℕ) → fewer ≤ most → others_at join reader most tests fewer rest ≡ whole) → joined_at join reader left lexemes ≡ whole
unfolding joined_at others_at
chain join reader Part Ends complete are _ _ _ left fewer whole (part tests lexemes rest is) ends count then = rw (complete tests lexemes rest left fewer is ends count) (then left (omega (arith, count)))
chain join reader Part Ends complete are _ _ _ left fewer whole (more l r lexemes middle following rest front joins is) ends count then =
    chain join reader Part Ends complete are l lexemes middle left (count_tests r + fewer) whole front (are r middle following rest joins is).1 (omega (arith, count)) one_more
  where
    one_more : (most : ℕ) → count_tests r + fewer ≤ most → others_at join reader most l (count_tests r + fewer) middle ≡ whole
    one_more zero enough = absurd (omega (arith, enough, some_test r))
    one_more (suc most) enough = rw ((are r middle following rest joins is).0, complete r following rest (count_tests r + fewer) fewer is ends refl) (then most (omega (arith, enough, some_test r)))

joined_complete : (join : Join) (reader : Reader) (Part : Rule) (Ends : List Lexeme → Type 0) → IsComplete reader Part Ends → JoinsAre join Part Ends → IsComplete (joined_at join reader) (AreJoined join Part) (λ rest. Ends rest × (after_join join rest ≡ None))
joined_complete join reader Part Ends complete are tests lexemes rest left fewer is ends count =
    chain join reader Part Ends complete are tests lexemes rest left fewer (Ok (tests, fewer, rest)) is ends.0 count (λ most enough. stops join reader most tests fewer rest ends.1)

one_complete : (inside : Reader) (Inside : Rule) → IsComplete inside Inside IsEnd → IsComplete (one_at inside) (IsOne Inside) (λ _. Unit {0})
unfolding one_at enclosed_at test_at
one_complete inside Inside complete _ _ _ left fewer (alone test lexemes rest is) ends count =
    let some : left ≡ suc fewer = omega (arith, count) in
    let first = next_is (tokens.Word (test_name test)) (tokens.Sign is.sign ∷ is.value ∷ []) lexemes rest is.stand in
    rw (some, first.is, is.free, label_test_is test lexemes rest is) refl
one_complete inside Inside complete _ _ _ left fewer (in_parentheses tests lexemes following end rest opened is closed) ends count =
    let n = next_is (tokens.Sign signs.OpenParenthesis) [] lexemes following opened in
    let read = complete tests following end left fewer is (no_more (tokens.Sign signs.CloseParenthesis) [] end rest closed refl (λ _. refl) refl) count in
    rw (n.is, n.more, read, expected_is signs.CloseParenthesis positions.AfterInnerTests end rest closed) refl

inside_complete : (depth : ℕ) → IsComplete (inside_at depth) (AreInside depth) IsEnd
inside_complete zero tests lexemes rest left fewer is ends count = absurd is
inside_complete (suc depth) tests lexemes rest left fewer is ends count =
    let all = joined_complete And (one_at (inside_at depth)) (IsOne (AreInside depth)) (λ _. Unit {0}) (one_complete (inside_at depth) (AreInside depth) (inside_complete depth)) (and_joins (AreInside depth)) in
    joined_complete Or _ _ (λ rest. Unit {0} × (after_join And rest ≡ None)) all (or_joins (AreInside depth)) tests lexemes rest left fewer is ((tt, ends.0), ends.1) count

-- what is derived is read, if its tests may come
pub tests_are_read : (depth left : ℕ) (lexemes : List Lexeme) (tests : TestTree TestForm) (fewer : ℕ) (rest : List Lexeme) → AreTests depth tests lexemes rest → IsEnd rest → count_tests tests + fewer ≡ left → tests_at depth left lexemes ≡ Ok (tests, fewer, rest)
tests_are_read depth left lexemes tests fewer rest is ends count = inside_complete (suc depth) tests lexemes rest left fewer is ends count
