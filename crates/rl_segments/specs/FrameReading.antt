-- Reading the front of bytes.
use Rattle.std.specs.Prelude.{ℕ, ◌==◌, nat_lt, List, [], ◌∷◌, length, take, drop, Option, None, Some, Result, Ok, Err, option_and_then, if◌then◌else◌}
use Rattle.std.specs.Int.{w64, from_be_bytes}
use Rattle.std.specs.Str.{is_utf8}
use Rattle.rl_segments.specs.declared.fault.RecordFault.{RecordFault}
use Rattle.rl_segments.specs.declared.fault.RecordFault.TheVariants.{NotARecord}

-- what is read, or that the bytes are no record's
abbrev pub Found : Type 0 → Type 0
Found A = Result A RecordFault

-- a value and the bytes after it
abbrev pub Read : Type 0 → Type 0
Read A = Found (A × List ℕ)

abbrev pub found : {A : Type 0} → Option A → Found A
found None = Err NotARecord
found (Some x) = Ok x

-- the bytes after a byte that stands in front
abbrev pub after : ℕ → List ℕ → Found (List ℕ)
after byte [] = Err NotARecord
after byte (first ∷ rest) = if first == byte then Ok rest else Err NotARecord

-- bytes that are UTF-8
abbrev pub utf8 : List ℕ → Found (List ℕ)
utf8 bytes = if is_utf8 bytes then Ok bytes else Err NotARecord

-- a number of eight bytes, and the bytes after it
unfoldable pub number_in : List ℕ → Option (ℕ × List ℕ)
number_in bytes = if nat_lt (length bytes) 8 then None else Some (from_be_bytes w64 (take 8 bytes), drop 8 bytes)

-- what stands after its length, and the bytes after that
unfoldable pub frame_in : List ℕ → Option (List ℕ × List ℕ)
frame_in bytes = option_and_then (λ len. if nat_lt (length len.1) len.0 then None else Some (take len.0 len.1, drop len.0 len.1)) (number_in bytes)
