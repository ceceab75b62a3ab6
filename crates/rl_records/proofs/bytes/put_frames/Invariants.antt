use Rattle.std.proofs.Common.{take}
use Rattle.std.specs.List.{flat_map}
use Rattle.std.specs.Io.KnownBytes.{Appends}
use Rattle.rl_records.specs.RecordBytes.{frame}
use Rattle.rl_records.proofs.bytes.put_frames.Given as goal

-- the texts so far
abbrev pub invariant-loop-text : goal.invariant-loop-text
invariant-loop-text g l = Appends (g.T.ByteTarget.contents l.initial.target) (g.T.ByteTarget.contents l.target) (flat_map frame (take l.text-index l.texts))
