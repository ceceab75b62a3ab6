-- The labels of a set that grows: few in a list, or many in a tree.
use Rattle.std.specs.Prelude.{List}
use Rattle.rl_labels.specs.LabelSet.{Pair}
use Rattle.rl_labels.specs.declared.builder.Form.{Form}
use Rattle.rl_labels.specs.declared.builder.Form.TheVariants.{Few, Many}

abbrev pub labels_in : Form → List Pair
labels_in (Few labels) = labels.items
labels_in (Many tree) = tree
