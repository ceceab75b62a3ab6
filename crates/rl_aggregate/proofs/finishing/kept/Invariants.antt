-- The copies so far are the partials so far.
use Rattle.std.proofs.Common.{◌≡◌, take}
use Rattle.rl_aggregate.proofs.finishing.kept.Given as goal

abbrev pub invariant-loop-partial : goal.invariant-loop-partial
invariant-loop-partial l = l.shared.items ≡ take l.partial-index l.partials
