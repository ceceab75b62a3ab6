-- The items so far are equal in both lists.
use Rattle.std.proofs.Common.{◌≡◌, take}
use Rattle.rl_plain.proofs.sameness.PlainListSame.is_same.Given as goal

abbrev pub invariant-loop-index : goal.invariant-loop-index
invariant-loop-index g l = take l.index l.left ≡ take l.index l.right
