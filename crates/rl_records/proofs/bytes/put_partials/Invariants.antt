use Rattle.std.proofs.Common.{take}
use Rattle.std.specs.List.{flat_map}
use Rattle.std.specs.Io.KnownBytes.{Appends}
use Rattle.rl_records.specs.RecordBytes.{partial_bytes}
use Rattle.rl_records.proofs.bytes.put_partials.Given as goal

-- the partials so far
abbrev pub invariant-loop-partial : goal.invariant-loop-partial
invariant-loop-partial g l = Appends (g.T.ByteTarget.contents l.initial.target) (g.T.ByteTarget.contents l.target) (flat_map partial_bytes (take l.partial-index l.partials))
