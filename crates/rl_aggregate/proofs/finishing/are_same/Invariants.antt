-- The partials so far are equal in both lists.
use Rattle.std.proofs.Common.{◌≡◌, take}
use Rattle.rl_aggregate.proofs.finishing.are_same.Given as goal

abbrev pub invariant-loop-index : goal.invariant-loop-index
invariant-loop-index l = take l.index l.partials ≡ take l.index l.others
