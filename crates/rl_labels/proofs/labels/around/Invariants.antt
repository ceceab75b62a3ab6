-- The label would stand among those that are left.
use Rattle.std.proofs.Common.{◌≡◌, ◌++◌, List, ℕ, drop, take}
use Rattle.std.specs.FinMap.Entries.{put}
use Rattle.rl_labels.specs.Name.{name_cmp}
use Rattle.rl_labels.proofs.labels.around.Given as goal

abbrev pub invariant-loop-index : goal.invariant-loop-index
invariant-loop-index l = (value : List ℕ) → take l.index l.labels ++ put name_cmp l.name value (drop l.index l.labels) ≡ put name_cmp l.name value l.labels
