-- The entries of the streams so far are counted.
use Rattle.std.proofs.Common.{◌≡◌, length, take}
use Rattle.rl_streams.specs.StreamRows.{joined}
use Rattle.rl_streams.proofs.rewriting.count.Given as goal

abbrev pub invariant-loop-position : goal.invariant-loop-position
invariant-loop-position l = l.count ≡ length (joined (take l.position l.streams.entries))
