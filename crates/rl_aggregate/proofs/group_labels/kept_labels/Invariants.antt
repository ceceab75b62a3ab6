-- The labels so far are those of the pairs after the ones that are left.
use Rattle.std.proofs.Common.{◌≡◌, ◌++◌, List, length}
use Rattle.std.specs.List.{filter}
use Rattle.rl_labels.specs.LabelSet.{Pair, labels_of, label_set_of}
use Rattle.rl_aggregate.specs.Grouping.{is_grouping_label}
use Rattle.rl_aggregate.proofs.group_labels.kept_labels.Given as goal

abbrev pub invariant-loop-pair : goal.invariant-loop-pair
invariant-loop-pair l = (done : List Pair) × (l.rest ++ done ≡ labels_of l.labels) × (l.builder ≡ label_set_of (filter (λ pair. is_grouping_label l.grouping pair.0) done))

abbrev pub decreases-loop-pair : goal.decreases-loop-pair
decreases-loop-pair l = length l.rest
