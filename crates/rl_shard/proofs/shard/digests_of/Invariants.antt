-- Those of the records so far.
use Rattle.std.proofs.Common.{◌≡◌, map, take}
use Rattle.rl_records.specs.RecordBytes.{digest_of}
use Rattle.rl_shard.proofs.shard.digests_of.Given as goal

abbrev pub invariant-loop-one : goal.invariant-loop-one
invariant-loop-one l = l.digests.items ≡ map digest_of (take l.one-index l.journal)
