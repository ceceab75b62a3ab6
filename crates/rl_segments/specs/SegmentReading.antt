-- Reading a segment from left to right.
use Rattle.std.specs.Prelude.{ℕ, zero, suc, ◌-◌, nat_lt, nat_eq, List, length, take, drop, Option, None, Some, option_map, option_and_then, codes, if◌then◌else◌}
use Rattle.std.specs.Cmp.Lexicographic.{pointwise}
use Rattle.rl_segments.specs.FrameReading.{frame_in, number_in}

-- what stands in the frame at an index
unfoldable pub frame_at : ℕ → List ℕ → Option (List ℕ)
frame_at zero bytes = option_map (λ found. found.0) (frame_in bytes)
frame_at (suc n) bytes = option_and_then (λ found. frame_at n found.1) (frame_in bytes)

-- the place of the first record, and the frames of all records, after their number
unfoldable pub head_in : List ℕ → Option (ℕ × List ℕ)
head_in bytes =
    if nat_lt (length bytes) 4 then None
    else (if pointwise nat_eq (take 4 bytes) (codes "RLJ1") then option_and_then (λ first. if nat_lt (length first.1) 4 then None else Some (first.0, drop 4 first.1)) (number_in (drop 4 bytes)) else None)

-- the record at a place of the journal
unfoldable pub record_in : (place : ℕ) → List ℕ → Option (List ℕ)
record_in place bytes = option_and_then (λ head. if nat_lt place head.0 then None else frame_at (place - head.0) head.1) (head_in bytes)
