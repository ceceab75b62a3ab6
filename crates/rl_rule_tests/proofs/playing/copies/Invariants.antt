-- The copies so far.
use Rattle.std.proofs.Common.{◌≡◌, take}
use Rattle.rl_rule_tests.proofs.playing.copies.Given as goal

abbrev pub invariant-loop-group : goal.invariant-loop-group
invariant-loop-group l = l.copies.items ≡ take l.group-index l.groups
