-- Rows of digits, and decimals.
use Rattle.std.specs.Prelude.{ℕ, ◌+◌, ◌*◌, ◌-◌, ◌^◌, ◌==◌, nat_lt, nat_le, Bool, ◌&&◌, List, length, Option, None, Some, option_and_then, option_map, take, drop, position, if◌then◌else◌, refl}
use Rattle.std.specs.List.{list_all}
use Rattle.std.specs.Char.{is_ascii_digit}
use Rattle.std.specs.Coded.{Coded, code_by, coded×, coded_ℕ}
use Rattle.std.specs.Str.Parse.{digits_value}

-- at least one digit, and at most `most`
abbrev pub is_row : ℕ → List ℕ → Bool
is_row most text = nat_lt 0 (length text) && (nat_le (length text) most && list_all is_ascii_digit text)

-- the number that a row of digits writes
abbrev pub number_of : ℕ → List ℕ → Option ℕ
number_of most text = if is_row most text then Some (digits_value 10 text) else None

-- a decimal as it is written
pub record DecimalForm : Type 0 where
  -- the number in front of the point
  pub whole : ℕ
  -- the number after it, 0 where there is no point
  pub fraction : ℕ
  -- how many digits stand after it
  pub digits : ℕ

-- 0, without a point
abbrev pub no_decimal : DecimalForm
no_decimal = record { whole = 0; fraction = 0; digits = 0 }

-- its value in billionths
abbrev pub billionths : DecimalForm → ℕ
billionths d = d.whole * 1000000000 + d.fraction * 10 ^ (9 - d.digits)

-- the parts before and after the first point
abbrev pub cut_at_point : List ℕ → Option (List ℕ × List ℕ)
cut_at_point text = option_map (λ offset. (take offset text, drop (offset + 1) text)) (position (λ b. b == 46) text)

abbrev pub decimal_of_parts : ℕ → List ℕ → Option (List ℕ × List ℕ) → Option DecimalForm
decimal_of_parts most text None = option_map (λ whole. record { whole = whole; fraction = 0; digits = 0 }) (number_of most text)
decimal_of_parts most _ (Some parts) = option_and_then (λ whole. option_map (λ fraction. record { whole = whole; fraction = fraction; digits = length parts.1 }) (number_of 9 parts.1)) (number_of most parts.0)

-- 1 to `most` digits, and perhaps a point and 1 to 9 digits
abbrev pub decimal_of : ℕ → List ℕ → Option DecimalForm
decimal_of most text = decimal_of_parts most text (cut_at_point text)

-- a decimal as numbers, for a store
abbrev pub decimal_code : Coded DecimalForm
decimal_code = code_by (ℕ × (ℕ × ℕ)) (coded× coded_ℕ (coded× coded_ℕ coded_ℕ)) (λ d. (d.whole, (d.fraction, d.digits))) (λ p. record { whole = p.0; fraction = p.1.0; digits = p.1.1 }) (λ _. refl)
