-- The trees of tests that built ones are.
use Rattle.rl_query.specs.declared.label_test.LabelTest.{LabelTest}
use Rattle.rl_query.specs.TestTree.{TestTree, one, joined}
use Rattle.rl_pipeline.specs.declared.testing.Asking.{Asking}
use Rattle.rl_pipeline.specs.declared.testing.Asking.TheVariants as asked
use Rattle.rl_pipeline.specs.declared.label_tests.Node.{Node}
use Rattle.rl_pipeline.specs.declared.label_tests.Node.TheVariants as nodes

abbrev pub node_tree : Node → TestTree LabelTest
node_tree (nodes.One test) = one test.value
node_tree (nodes.Joined join left right) = joined join left.value right.value

abbrev pub asking_tree : Asking → TestTree LabelTest
asking_tree (asked.One test) = one test
asking_tree (asked.Joined pair) = joined pair.join pair.left.value pair.right.value
