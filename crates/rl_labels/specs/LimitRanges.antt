-- The ranges of the limits.
use Rattle.std.specs.Prelude.{ℕ, nat_le, Bool, ◌&&◌, List, Option, None, Some, if◌then◌else◌, codes}
use Rattle.rl_labels.specs.declared.limits.Limits.{Limits}
use Rattle.rl_labels.specs.declared.limits.RawLimits.{RawLimits}
use Rattle.rl_labels.specs.declared.limits.LimitField.{LimitField}
use Rattle.rl_labels.specs.declared.limits.LimitField.TheVariants.{Entries, ChunkEntries, ChunkAge, Cancel, Keep, Cache, Records, FirstBlob}

abbrev pub in_range : ℕ → ℕ → ℕ → Bool
in_range least most n = nat_le least n && nat_le n most

-- the first limit that is out of its range, if one is
abbrev pub first_out_of_range : RawLimits → Option LimitField
first_out_of_range raw =
    if in_range 1 67108864 raw.entries then (if in_range 1 1048576 raw.chunk_entries then (if in_range 0 2592000 raw.chunk_age then (if in_range 0 31536000 raw.cancel
    then (if in_range 0 315360000 raw.keep then (if in_range 0 4096 raw.cache then (if in_range 1 1048576 raw.records then None else Some Records)
    else Some Cache) else Some Keep) else Some Cancel) else Some ChunkAge) else Some ChunkEntries) else Some Entries

-- the limits without their ranges
abbrev pub raw_limits : Limits → RawLimits
raw_limits limits = record { entries = limits.entries; chunk_entries = limits.chunk_entries; chunk_age = limits.chunk_age; cancel = limits.cancel; keep = limits.keep; cache = limits.cache; records = limits.records; first_blob = limits.first_blob }

-- a limit with its range, as it is shown
abbrev pub range_text : LimitField → List ℕ
range_text Entries = codes "entries is 1 to 67108864"
range_text ChunkEntries = codes "chunk_entries is 1 to 1048576"
range_text ChunkAge = codes "chunk_age is 0 to 2592000 seconds"
range_text Cancel = codes "cancel is 0 to 31536000 seconds"
range_text Keep = codes "keep is 0 to 315360000 seconds"
range_text Cache = codes "cache is 0 to 4096 chunks"
range_text Records = codes "records is 1 to 1048576"
range_text FirstBlob = codes "first_blob is any number"
