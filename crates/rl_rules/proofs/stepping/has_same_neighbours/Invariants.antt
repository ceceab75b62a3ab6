-- What is left answers as the whole.
use Rattle.std.proofs.Common.{◌≡◌, ◌-◌, drop}
use Rattle.rl_rules.specs.Recording.{has_same_neighbours}
use Rattle.rl_rules.proofs.stepping.has_same_neighbours.Given as goal

abbrev pub invariant-loop-index : goal.invariant-loop-index
invariant-loop-index l = has_same_neighbours (drop (l.index - 1) l.samples) ≡ has_same_neighbours l.samples
