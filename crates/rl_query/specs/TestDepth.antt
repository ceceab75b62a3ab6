-- Which tests need parentheses, and how deep those stand within one another.
use Rattle.std.specs.Prelude.{ℕ, suc, max, Bool, true, false, if◌then◌else◌}
use Rattle.rl_query.specs.declared.label_test.Join.{Join}
use Rattle.rl_query.specs.declared.label_test.Join.TheVariants.{And, Or}
use Rattle.rl_query.specs.declared.label_test.Level.{Level}
use Rattle.rl_query.specs.declared.label_test.Level.TheVariants as levels
use Rattle.rl_query.specs.TestTree.{TestTree, one, joined}

-- what may stand on the left and on the right of what joins without parentheses
abbrev pub left_level : Join → Level
left_level And = levels.All
left_level Or = levels.Tests

abbrev pub right_level : Join → Level
right_level And = levels.One
right_level Or = levels.All

-- parentheses are needed
abbrev pub needs : {A : Type 0} → Level → TestTree A → Bool
needs levels.All (joined Or left right) = true
needs levels.One (joined join left right) = true
needs _ _ = false

abbrev pub deepened : (needed : Bool) → ℕ → ℕ
deepened needed depth = if needed then suc depth else depth

-- how many parentheses are open within one another at most
abbrev pub text_depth : {A : Type 0} → TestTree A → ℕ
text_depth (one test) = 0
text_depth (joined join left right) = max (deepened (needs (left_level join) left) (text_depth left)) (deepened (needs (right_level join) right) (text_depth right))
