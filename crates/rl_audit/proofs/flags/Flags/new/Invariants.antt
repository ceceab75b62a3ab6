-- The columns so far, no place of which is claimed.
use Rattle.std.proofs.Common.{◌≡◌, false, map, replicate, take}
use Rattle.rl_audit.proofs.flags.Flags.new.Given as goal

abbrev pub invariant-loop-size : goal.invariant-loop-size
invariant-loop-size l = l.flags.items ≡ map (λ size. replicate size false) (take l.size-index l.sizes)
