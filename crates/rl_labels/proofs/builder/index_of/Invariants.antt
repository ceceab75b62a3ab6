-- The labels from the index on are above the name.
use Rattle.std.proofs.Common.{◌≡◌, ◌≤◌, true, length, drop}
use Rattle.std.specs.FinMap.Entries.{below_all}
use Rattle.rl_labels.specs.Name.{name_cmp}
use Rattle.rl_labels.proofs.builder.index_of.Given as goal

abbrev pub invariant-loop-index : goal.invariant-loop-index
invariant-loop-index l = record {
  within : l.index ≤ length l.labels;
  below : below_all name_cmp l.name (drop l.index l.labels) ≡ true;
}

abbrev pub decreases-loop-index : goal.decreases-loop-index
decreases-loop-index l = l.index
