-- What is left is in order, and answers as the whole.
use Rattle.std.proofs.Common.{◌≡◌, ◌≤◌, true, length}
use Rattle.std.specs.FinMap.Entries.{find, is_sorted}
use Rattle.rl_labels.specs.Name.{name_cmp}
use Rattle.rl_labels.proofs.labels.value_by_halves.Given as goal

abbrev pub invariant-loop-rest : goal.invariant-loop-rest
invariant-loop-rest l = record {
  shorter : length l.rest ≤ length l.labels;
  sorted : is_sorted name_cmp l.rest ≡ true;
  same : find name_cmp l.name l.rest ≡ find name_cmp l.name l.labels;
}

abbrev pub decreases-loop-rest : goal.decreases-loop-rest
decreases-loop-rest l = length l.rest
