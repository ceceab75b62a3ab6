-- Durations of ranges, in seconds.
use Rattle.std.specs.Prelude.{ℕ, ◌+◌, ◌-◌, ◌*◌, nat_lt, List, [], ◌∷◌, Option, Some, None, if◌then◌else◌}
use Rattle.std.specs.Option.{option_and_then, option_map}
use Rattle.std.specs.Char.{is_ascii_digit}
use Rattle.rl_query.specs.Tables.{unit_of}

-- a number with a digit more
abbrev pub digit_after : Option ℕ → ℕ → ℕ
digit_after None byte = byte - 48
digit_after (Some n) byte = 10 * n + (byte - 48)

-- the seconds of a number and a unit, whose rank is above the last one's
abbrev pub part_of : ℕ → Option ℕ → Option (ℕ × ℕ) → Option (ℕ × ℕ)
part_of rank (Some n) (Some unit) = if nat_lt rank unit.1 then Some (n * unit.0, unit.1) else None
part_of rank _ _ = None

-- the seconds of parts, after a unit of a rank and a number without its unit
abbrev pub duration_from : ℕ → Option ℕ → List ℕ → Option ℕ
duration_from rank None [] = Some 0
duration_from rank (Some n) [] = None
duration_from rank number (byte ∷ bytes) =
    if is_ascii_digit byte then duration_from rank (Some (digit_after number byte)) bytes
    else option_and_then (λ (part : ℕ × ℕ). option_map (λ others. part.0 + others) (duration_from part.1 None bytes)) (part_of rank number (unit_of byte))

-- parts of digits and a unit, each unit once, in the order `w d h m s`
abbrev pub duration_of : List ℕ → Option ℕ
duration_of = duration_from 0 None
