-- What is left of the run is that of what is left.
use Rattle.std.proofs.Common.{◌≡◌, ◌+◌, drop}
use Rattle.std.specs.List.{prefix_len}
use Rattle.rl_plain.proofs.run.run_len.Given as goal

abbrev pub invariant-loop-index : goal.invariant-loop-index
invariant-loop-index g l = l.index + prefix_len (g.C.ByteClass.has l.class) (drop l.index l.bytes) ≡ prefix_len (g.C.ByteClass.has l.class) l.bytes
