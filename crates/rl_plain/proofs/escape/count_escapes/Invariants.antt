-- The bytes so far, as they are written, are longer by the count.
use Rattle.std.proofs.Common.{◌≡◌, ◌+◌, ◌≤◌, length, take}
use Rattle.rl_plain.specs.Escapes.{escaped}
use Rattle.rl_plain.proofs.escape.count_escapes.Given as goal

abbrev pub invariant-loop-byte : goal.invariant-loop-byte
invariant-loop-byte l = (length (escaped l.table (take l.byte-index l.byte-items)) ≡ l.byte-index + l.count) × (l.count ≤ l.byte-index)
