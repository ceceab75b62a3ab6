-- The parts of label tests, and label tests without the facts that their types keep.
use Rattle.rl_query.specs.TestTree.{TestTree, one, joined}
use Rattle.rl_query.specs.declared.label_test.LabelTest.{LabelTest}
use Rattle.rl_query.specs.declared.label_test.Node.{Node}
use Rattle.rl_query.specs.declared.label_test.Node.TheVariants as nodes
use Rattle.rl_query.specs.declared.label_test.TestParts.{TestParts}
use Rattle.rl_query.specs.declared.label_test.TestParts.TheVariants as parts

-- the tree that a node is
abbrev pub node_tree : Node → TestTree LabelTest
node_tree (nodes.One test) = one test.value
node_tree (nodes.Joined join left right) = joined join left.value right.value

-- the tree of its parts
abbrev pub parts_tree : TestParts → TestTree LabelTest
parts_tree (parts.One test) = one test.now
parts_tree (parts.Joined join left right) = joined join left.now right.now
