-- Durations and sizes as texts have them, and the numbers, durations and sizes that labels' values are.
use Rattle.std.specs.Prelude.{ℕ, zero, suc, ◌*◌, ◌==◌, Bool, true, false, ◌||◌, not, List, [], ◌∷◌, map, take, drop, sum_by, Option, None, Some, option_and_then, option_map, codes, ℤ, pos, neg_ℤ, if◌then◌else◌}
use Rattle.std.specs.List.{prefix_len}
use Rattle.std.specs.Char.{is_ascii_digit, to_ascii_lowercase}
use Rattle.rl_labels.specs.Name.{is_text}
use Rattle.rl_labels.specs.Decimals.{DecimalForm, no_decimal, billionths, decimal_of}
use Rattle.rl_labels.specs.declared.duration.DurationUnit.{DurationUnit}
use Rattle.rl_labels.specs.declared.duration.DurationUnit.TheVariants as time
use Rattle.rl_labels.specs.declared.duration.DurationPart.{DurationPart}
use Rattle.rl_labels.specs.declared.size.SizeUnit.{SizeUnit}
use Rattle.rl_labels.specs.declared.size.SizeUnit.TheVariants as sizes
use Rattle.rl_labels.specs.declared.signed.Signed.{Signed}
use Rattle.rl_labels.specs.declared.size.Size.{Size}

-- nanoseconds
abbrev pub nanoseconds_in : DurationUnit → ℕ
nanoseconds_in time.Nanosecond = 1
nanoseconds_in time.Microsecond = 1000
nanoseconds_in time.Millisecond = 1000000
nanoseconds_in time.Second = 1000000000
nanoseconds_in time.Minute = 60000000000
nanoseconds_in time.Hour = 3600000000000

abbrev pub bytes_in : SizeUnit → ℕ
bytes_in sizes.Byte = 1
bytes_in sizes.Kilobyte = 1000
bytes_in sizes.Kibibyte = 1024
bytes_in sizes.Megabyte = 1000000
bytes_in sizes.Mebibyte = 1048576
bytes_in sizes.Gigabyte = 1000000000
bytes_in sizes.Gibibyte = 1073741824

-- a micro sign is U+00B5 or U+03BC
abbrev pub duration_unit : List ℕ → Option DurationUnit
duration_unit text =
    if is_text text (codes "ns") then Some time.Nanosecond
    else (if is_text text (codes "us") then Some time.Microsecond
    else (if is_text text (194 ∷ 181 ∷ codes "s") then Some time.Microsecond
    else (if is_text text (206 ∷ 188 ∷ codes "s") then Some time.Microsecond
    else (if is_text text (codes "ms") then Some time.Millisecond
    else (if is_text text (codes "s") then Some time.Second
    else (if is_text text (codes "m") then Some time.Minute
    else (if is_text text (codes "h") then Some time.Hour
    else None)))))))

-- in lower case
abbrev pub size_unit_in_lower_case : List ℕ → Option SizeUnit
size_unit_in_lower_case text =
    if is_text text (codes "b") then Some sizes.Byte
    else (if is_text text (codes "kb") then Some sizes.Kilobyte
    else (if is_text text (codes "kib") then Some sizes.Kibibyte
    else (if is_text text (codes "mb") then Some sizes.Megabyte
    else (if is_text text (codes "mib") then Some sizes.Mebibyte
    else (if is_text text (codes "gb") then Some sizes.Gigabyte
    else (if is_text text (codes "gib") then Some sizes.Gibibyte
    else None))))))

-- in either case
abbrev pub size_unit : List ℕ → Option SizeUnit
size_unit text = size_unit_in_lower_case (map to_ascii_lowercase text)

-- a byte of a number, which is a digit or a point, or else one of a unit
abbrev pub is_byte_of : Bool → ℕ → Bool
is_byte_of true byte = is_ascii_digit byte || byte == 46
is_byte_of false byte = not (is_ascii_digit byte || byte == 46)

-- the longest front of such bytes, and what follows it
abbrev pub front_of : Bool → List ℕ → List ℕ × List ℕ
front_of of_number text = (take (prefix_len (is_byte_of of_number) text) text, drop (prefix_len (is_byte_of of_number) text) text)

abbrev pub part_of : Option DecimalForm → Option DurationUnit → Option DurationPart
part_of (Some number) (Some unit) = Some (record { number = number; unit = unit })
part_of number unit = None

-- a part of a duration at the front, and what follows it
abbrev pub part_at : List ℕ → Option (DurationPart × List ℕ)
part_at text =
    let number = front_of true text in
    let unit = front_of false number.1 in
    option_map (λ part. (part, unit.1)) (part_of (decimal_of 15 number.0) (duration_unit unit.0))

-- a part, and those that are read after it, if anything follows it
abbrev pub part_then : (List ℕ → Option (List DurationPart)) → DurationPart × List ℕ → Option (List DurationPart)
part_then read_others (part, []) = Some (part ∷ [])
part_then read_others (part, byte ∷ bytes) = option_map (λ others. part ∷ others) (read_others (byte ∷ bytes))

-- at least one part, at most the given number of them, and nothing else
abbrev pub parts_of : ℕ → List ℕ → Option (List DurationPart)
parts_of zero text = None
parts_of (suc most) text = option_and_then (part_then (parts_of most)) (part_at text)

-- a duration: 1 to 8 parts
unfoldable pub duration_of : List ℕ → Option (List DurationPart)
duration_of text = parts_of 8 text

-- in billionths of a nanosecond
abbrev pub part_value : DurationPart → ℕ
part_value part = billionths part.number * nanoseconds_in part.unit

-- the parts are added
abbrev pub duration_value : List DurationPart → ℕ
duration_value parts = sum_by part_value parts

-- a text without a space at its front
abbrev pub without_space : List ℕ → List ℕ
without_space [] = []
without_space (byte ∷ bytes) = if byte == 32 then bytes else byte ∷ bytes

abbrev pub size_of_parts : Option DecimalForm → Option SizeUnit → Option Size
size_of_parts (Some number) (Some unit) = Some (record { number = number; unit = unit })
size_of_parts number unit = None

-- a size: a decimal, at most one space, and a unit
abbrev pub size_of : List ℕ → Option Size
size_of text = let number = front_of true text in size_of_parts (decimal_of 15 number.0) (size_unit (without_space number.1))

-- in billionths of a byte
abbrev pub size_value : Size → ℕ
size_value size = billionths size.number * bytes_in size.unit

-- whether a minus stands at the front, and what follows it
abbrev pub sign_at : List ℕ → Bool × List ℕ
sign_at [] = (false, [])
sign_at (byte ∷ bytes) = if byte == 45 then (true, bytes) else (false, byte ∷ bytes)

abbrev pub signed_value : Bool → ℕ → ℤ
signed_value negative value = if negative then neg_ℤ (pos value) else pos value

-- what is read after a sign, if there is one
abbrev pub signed : {Q : Type 0} → (List ℕ → Option Q) → List ℕ → Option (Signed Q)
signed read text = option_map (λ quantity. record { is_negative = (sign_at text).0; quantity = quantity }) (read (sign_at text).1)

-- no second
abbrev pub no_time : List DurationPart
no_time = record { number = no_decimal; unit = time.Second } ∷ []

-- a duration in a label's value: `0`, or parts, perhaps after a sign
abbrev pub duration_in_label : List ℕ → Option (Signed (List DurationPart))
duration_in_label text = if is_text text (codes "0") then Some (record { is_negative = false; quantity = no_time }) else signed duration_of text
