-- The size of the tests falls.
use Rattle.std.proofs.Common.{◌+◌, ◌*◌}
use Rattle.rl_query.specs.TestTree.{tree_size}
use Rattle.rl_query.proofs.test_printer.+printing.Given as goal

abbrev pub decreases-push_tests : goal.decreases-push_tests
decreases-push_tests l = 2 * tree_size l.tests.now

abbrev pub decreases-push_enclosed : goal.decreases-push_enclosed
decreases-push_enclosed l = 2 * tree_size l.tests.now + 1
