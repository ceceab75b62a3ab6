-- The entries that are left are the rest.
use Rattle.std.specs.FinMap.{entries}
use Rattle.std.specs.List.{flat_map}
use Rattle.rl_records.specs.RecordBytes.{volume_bytes}
use Rattle.rl_records.proofs.Put.{Puts}
use Rattle.rl_records.proofs.bytes.put_totals.Given as goal

abbrev pub invariant-loop-labels : goal.invariant-loop-labels
invariant-loop-labels g l = Puts (g.T.ByteTarget.contents l.initial.target) (g.T.ByteTarget.contents l.target) (flat_map volume_bytes (entries l.totals)) (flat_map volume_bytes l.labels-iterator)
