-- The labels of the group are those of the labels so far that decide it, and the rest.
use Rattle.std.proofs.Common.{◌≡◌, ◌++◌, take}
use Rattle.std.specs.List.{filter}
use Rattle.rl_aggregate.specs.Grouping.{is_grouping_label}
use Rattle.rl_aggregate.proofs.group_labels.are_of_group.Given as goal

abbrev pub invariant-loop-label : goal.invariant-loop-label
invariant-loop-label l = filter (λ pair. is_grouping_label l.grouping pair.0) (take l.label-index l.labels) ++ l.rest ≡ l.group
