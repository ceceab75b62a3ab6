-- The labels so far and those that are left are all.
use Rattle.std.proofs.Common.{◌≡◌, ◌++◌}
use Rattle.rl_labels.specs.LabelTrees.{pairs_in}
use Rattle.rl_labels.proofs.label_tree.LabelTree.labels.Given as goal

abbrev pub invariant-loop-name : goal.invariant-loop-name
invariant-loop-name l = l.labels.items ++ pairs_in l.name-iterator ≡ l.self
