-- The frames of the records so far follow the bytes that were there.
use Rattle.std.proofs.Common.{◌≡◌, ◌++◌, map, take}
use Rattle.std.specs.List.{flat_map}
use Rattle.rl_records.specs.RecordBytes.{frame, record_bytes}
use Rattle.rl_segments.proofs.segment.push_records.Given as goal

abbrev pub invariant-loop-record : goal.invariant-loop-record
invariant-loop-record l = l.bytes.items ≡ l.fn.bytes.items ++ flat_map frame (map record_bytes (take l.record-index l.records))
