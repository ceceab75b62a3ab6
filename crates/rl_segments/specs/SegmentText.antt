-- The bytes of a segment.
use Rattle.std.specs.Prelude.{ℕ, ◌-◌, nat_lt, List, ◌++◌, length, Option, None, codes, slice_get, if◌then◌else◌}
use Rattle.std.specs.Int.{w32, to_be_bytes}
use Rattle.std.specs.List.{flat_map}
use Rattle.rl_records.specs.RecordBytes.{frame, number}

-- a mark, the place of the first record in the journal, and how many records there are
abbrev pub head_text : (first count : ℕ) → List ℕ
head_text first count = codes "RLJ1" ++ (number first ++ to_be_bytes w32 count)

-- such a head, and the bytes of each record after their length
abbrev pub segment_text : (first : ℕ) → List (List ℕ) → List ℕ
segment_text first records = head_text first (length records) ++ flat_map frame records

-- what stands at a place of the journal, where the first item of a list stands at another
abbrev pub at_place : {A : Type 0} (first : ℕ) → List A → (place : ℕ) → Option A
at_place first items place = if nat_lt place first then None else slice_get items (place - first)
