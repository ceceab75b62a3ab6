-- What is left answers as the whole.
use Rattle.std.proofs.Common.{◌≡◌, ◌-◌, drop}
use Rattle.rl_labels.specs.Rising.{rises}
use Rattle.rl_labels.proofs.labels.names_rise.Given as goal

abbrev pub invariant-loop-index : goal.invariant-loop-index
invariant-loop-index l = rises (drop (l.index - 1) l.pairs) ≡ rises l.pairs
