-- Tests that are derived need no more parentheses than stand in their text.
use Rattle.std.proofs.Common.{ℕ, zero, suc, ◌≤◌, Bool, List, arith}
use Rattle.rl_query.specs.declared.label_test.Join.{Join}
use Rattle.rl_query.specs.declared.label_test.Join.TheVariants.{And, Or}
use Rattle.rl_query.specs.declared.label_test.Level.TheVariants as levels
use Rattle.rl_query.specs.declared.token.Lexeme.{Lexeme}
use Rattle.rl_query.specs.Form.{TestForm}
use Rattle.rl_query.specs.TestDepth.{left_level, right_level, needs, deepened, text_depth}
use Rattle.rl_selector_text.specs.TestGrammar.{Rule, IsOne, alone, in_parentheses, AreJoined, part, more, AreInside, AreTests}
use Rattle.rl_query.specs.TestTree.{TestTree, joined}

-- what stands in parentheses takes one of `depth`
abbrev IsShallow : Rule → ℕ → Type 0
IsShallow Inside depth = (tests : TestTree TestForm) (lexemes rest : List Lexeme) → Inside tests lexemes rest → suc (text_depth tests) ≤ depth

no_more : (needed : Bool) (depth : ℕ) → deepened needed depth ≤ suc depth
no_more needed depth = grind arith

-- on the left of what joins no more parentheses are needed than on the right
looser : (join : Join) (tests : TestTree TestForm) (depth : ℕ) → deepened (needs (left_level join) tests) depth ≤ deepened (needs (right_level join) tests) depth
looser And (joined And left right) depth = omega arith
looser Or (joined Or left right) depth = omega arith
looser _ _ depth = omega arith

one_shallow : (Inside : Rule) (depth : ℕ) → IsShallow Inside depth → (tests : TestTree TestForm) (lexemes rest : List Lexeme) → IsOne Inside tests lexemes rest → deepened (needs levels.One tests) (text_depth tests) ≤ depth
one_shallow Inside depth shallow _ _ _ (alone test lexemes rest is) = omega arith
one_shallow Inside depth shallow _ _ _ (in_parentheses tests lexemes following end rest opened is closed) = omega (arith, shallow tests following end is, no_more (needs levels.One tests) (text_depth tests))

joined_shallow : (join : Join) (Part : Rule) (depth : ℕ) → ((tests : TestTree TestForm) (lexemes rest : List Lexeme) → Part tests lexemes rest → deepened (needs (right_level join) tests) (text_depth tests) ≤ depth) → (tests : TestTree TestForm) (lexemes rest : List Lexeme) → AreJoined join Part tests lexemes rest → deepened (needs (left_level join) tests) (text_depth tests) ≤ depth
joined_shallow join Part depth shallow _ _ _ (part tests lexemes rest is) = omega (arith, shallow tests lexemes rest is, looser join tests (text_depth tests))
joined_shallow And Part depth shallow _ _ _ (more left right lexemes middle following rest are joins is) = omega (arith, joined_shallow And Part depth shallow left lexemes middle are, shallow right following rest is)
joined_shallow Or Part depth shallow _ _ _ (more left right lexemes middle following rest are joins is) = omega (arith, joined_shallow Or Part depth shallow left lexemes middle are, shallow right following rest is)

inside_shallow : (depth : ℕ) → IsShallow (AreInside depth) depth
inside_shallow zero tests lexemes rest is = absurd is
inside_shallow (suc depth) tests lexemes rest are = omega (arith, joined_shallow Or _ depth (joined_shallow And _ depth (one_shallow (AreInside depth) depth (inside_shallow depth))) tests lexemes rest are)

pub tests_shallow : (depth : ℕ) (tests : TestTree TestForm) (lexemes rest : List Lexeme) → AreTests depth tests lexemes rest → text_depth tests ≤ depth
tests_shallow depth tests lexemes rest are = omega (arith, inside_shallow (suc depth) tests lexemes rest are)
