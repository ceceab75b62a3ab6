-- Each turn goes to a smaller tree.
use Rattle.rl_query.specs.TestTree.{tree_size}
use Rattle.rl_query_text.proofs.query_reading.+left_after_tests.Given as goal

abbrev pub decreases-left_after_tests : goal.decreases-left_after_tests
decreases-left_after_tests l = tree_size l.tests.now
