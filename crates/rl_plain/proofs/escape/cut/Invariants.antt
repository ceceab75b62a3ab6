-- The bytes so far stand for themselves.
use Rattle.std.proofs.Common.{◌≡◌, take}
use Rattle.rl_plain.specs.Escapes.{escaped}
use Rattle.rl_plain.proofs.escape.cut.Given as goal

abbrev pub invariant-loop-index : goal.invariant-loop-index
invariant-loop-index l = escaped l.table (take l.index l.value) ≡ take l.index l.value
