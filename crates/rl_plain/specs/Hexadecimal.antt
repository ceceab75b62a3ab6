-- Hexadecimal digits, and numbers of them.
use Rattle.std.specs.Prelude.{ℕ, ◌+◌, ◌-◌, ◌*◌, nat_le, ◌&&◌, List, [], ◌∷◌, Option, Some, None, if◌then◌else◌}
use Rattle.std.specs.Option.{option_and_then}
use Rattle.std.specs.Char.{is_ascii_digit}

-- the value of a hexadecimal digit
abbrev pub hex_digit : ℕ → Option ℕ
hex_digit byte =
    if is_ascii_digit byte then Some (byte - 48)
    else (if nat_le 97 byte && nat_le byte 102 then Some (byte - 87)
    else (if nat_le 65 byte && nat_le byte 70 then Some (byte - 55)
    else None))

-- the number that hexadecimal digits write, after those read so far
abbrev pub hex_number : ℕ → List ℕ → Option ℕ
hex_number so_far [] = Some so_far
hex_number so_far (byte ∷ bytes) = option_and_then (λ digit. hex_number (16 * so_far + digit) bytes) (hex_digit byte)
