-- The canonical text of label tests.
use Rattle.std.specs.Prelude.{ℕ, Bool, List, ◌++◌, if◌then◌else◌, codes}
use Rattle.rl_query.specs.declared.label_test.Join.{Join}
use Rattle.rl_query.specs.declared.label_test.Join.TheVariants.{And, Or}
use Rattle.rl_query.specs.MatcherPrinting.{matcher_text}
use Rattle.rl_query.specs.Form.{QuantityForm, TestForm, by_text, by_quantity}
use Rattle.rl_query.specs.Quantities.{quantity_text}
use Rattle.rl_query.specs.Tables.{sign_text, comparison_sign}
use Rattle.rl_query.specs.TestDepth.{left_level, right_level, needs}
use Rattle.rl_query.specs.TestTree.{TestTree, one, joined}

-- took>1.5s
abbrev pub quantity_test_text : QuantityForm → List ℕ
quantity_test_text test = test.name ++ sign_text (comparison_sign test.comparison) ++ quantity_text test.quantity

abbrev pub test_text : TestForm → List ℕ
test_text (by_text matcher) = matcher_text matcher
test_text (by_quantity test) = quantity_test_text test

abbrev pub join_text : Join → List ℕ
join_text And = codes " and "
join_text Or = codes " or "

abbrev pub enclosed : (needed : Bool) → List ℕ → List ℕ
enclosed needed bytes = if needed then codes "(" ++ bytes ++ codes ")" else bytes

-- a="x" and (b="y" or c="z")
abbrev pub tests_text : TestTree TestForm → List ℕ
tests_text (one test) = test_text test
tests_text (joined join left right) = enclosed (needs (left_level join) left) (tests_text left) ++ join_text join ++ enclosed (needs (right_level join) right) (tests_text right)
