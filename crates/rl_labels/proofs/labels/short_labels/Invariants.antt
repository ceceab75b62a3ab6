-- The labels so far.
use Rattle.std.proofs.Common.{◌≡◌, take}
use Rattle.rl_labels.proofs.labels.short_labels.Given as goal

abbrev pub invariant-loop-pair : goal.invariant-loop-pair
invariant-loop-pair l = l.labels.items ≡ take l.pair-index l.pairs
