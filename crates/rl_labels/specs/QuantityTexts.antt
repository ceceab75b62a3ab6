-- The canonical texts of decimals, durations and sizes, and which of these the readers of this crate give.
use Rattle.std.specs.Prelude.{ℕ, zero, suc, ◌+◌, ◌/◌, ◌%◌, ◌^◌, ◌==◌, nat_lt, nat_le, Bool, ◌&&◌, List, [], ◌∷◌, ◌++◌, length, codes, if◌then◌else◌}
use Rattle.std.specs.List.{flat_map, list_all}
use Rattle.std.specs.Fmt.{decimal}
use Rattle.rl_labels.specs.Decimals.{DecimalForm}
use Rattle.rl_labels.specs.declared.duration.DurationUnit.{DurationUnit}
use Rattle.rl_labels.specs.declared.duration.DurationUnit.TheVariants as time
use Rattle.rl_labels.specs.declared.duration.DurationPart.{DurationPart}
use Rattle.rl_labels.specs.declared.size.SizeUnit.{SizeUnit}
use Rattle.rl_labels.specs.declared.size.SizeUnit.TheVariants as sizes
use Rattle.rl_labels.specs.declared.size.Size.{Size}

-- the last k digits of the number n
abbrev pub digits_text : ℕ → ℕ → List ℕ
digits_text zero n = []
digits_text (suc k) n = digits_text k (n / 10) ++ (48 + n % 10) ∷ []

-- the number in front of the point without leading zeros, and a point only where digits follow
abbrev pub decimal_text : DecimalForm → List ℕ
decimal_text d = decimal d.whole ++ (if d.digits == 0 then [] else 46 ∷ digits_text d.digits d.fraction)

-- a microsecond is `us`, without a micro sign
abbrev pub duration_unit_text : DurationUnit → List ℕ
duration_unit_text time.Nanosecond = codes "ns"
duration_unit_text time.Microsecond = codes "us"
duration_unit_text time.Millisecond = codes "ms"
duration_unit_text time.Second = codes "s"
duration_unit_text time.Minute = codes "m"
duration_unit_text time.Hour = codes "h"

-- in lower case
abbrev pub size_unit_text : SizeUnit → List ℕ
size_unit_text sizes.Byte = codes "b"
size_unit_text sizes.Kilobyte = codes "kb"
size_unit_text sizes.Kibibyte = codes "kib"
size_unit_text sizes.Megabyte = codes "mb"
size_unit_text sizes.Mebibyte = codes "mib"
size_unit_text sizes.Gigabyte = codes "gb"
size_unit_text sizes.Gibibyte = codes "gib"

-- a part of a duration, as 1.5h
abbrev pub part_text : DurationPart → List ℕ
part_text part = decimal_text part.number ++ duration_unit_text part.unit

-- the parts in their order, with nothing between them
abbrev pub duration_text : List DurationPart → List ℕ
duration_text parts = flat_map part_text parts

-- the number and its unit, without a space
abbrev pub size_text : Size → List ℕ
size_text size = decimal_text size.number ++ size_unit_text size.unit

-- up to 15 digits in front of the point and up to 9 after it, within which the fraction fits
abbrev pub is_decimal : DecimalForm → Bool
is_decimal d = nat_lt d.whole (10 ^ 15) && (nat_lt d.fraction (10 ^ d.digits) && nat_le d.digits 9)

-- 1 to 8 parts, each of a decimal
abbrev pub is_duration : List DurationPart → Bool
is_duration parts = nat_lt 0 (length parts) && (nat_le (length parts) 8 && list_all (λ part. is_decimal part.number) parts)

-- one of a decimal
abbrev pub is_size : Size → Bool
is_size size = is_decimal size.number
