-- The copies so far are the items so far.
use Rattle.std.proofs.Common.{◌≡◌, take}
use Rattle.rl_plain.proofs.copying.PlainListTryCopy.try_copy.Given as goal

abbrev pub invariant-loop-item : goal.invariant-loop-item
invariant-loop-item g l = l.copies.items ≡ take l.item-index l.items
