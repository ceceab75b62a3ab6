-- The pairs of a line, as `logfmt` of LogQL takes them: by cases on the rest of the line.
use Rattle.std.specs.Prelude.{ℕ, zero, suc, ◌+◌, ◌-◌, ◌*◌, ◌==◌, nat_lt, nat_le, Bool, false, not, ◌&&◌, ◌||◌, List, [], ◌∷◌, ◌++◌, length, drop, Option, Some, None, if◌then◌else◌, encode_utf8}
use Rattle.std.specs.Option.{option_and_then, option_map, option_map_or}
use Rattle.std.specs.List.{list_any}
use Rattle.rl_labels.specs.LabelSet.{Pair, is_empty}
use Rattle.rl_plain.specs.Escapes.{Escapes, unescape}
use Rattle.rl_plain.specs.Hexadecimal.{hex_number}
use Rattle.rl_plain.specs.Runs.{run_at}
use Rattle.rl_pipeline.specs.declared.logfmt.Run.{Run}
use Rattle.rl_pipeline.specs.declared.logfmt.Run.TheVariants as runs

-- a byte up to the space stands between pairs
abbrev pub is_blank : ℕ → Bool
is_blank byte = nat_le byte 32

-- a byte of a pair, and one of a key
abbrev pub is_of_pair : ℕ → Bool
is_of_pair byte = not (is_blank byte)

abbrev pub is_of_key : ℕ → Bool
is_of_key byte = is_of_pair byte && not (byte == 61 || byte == 34)

-- a byte of a value in quotes that stands for itself
abbrev pub is_plain : ℕ → Bool
is_plain byte = not (byte == 92)

-- a byte goes on with a run
abbrev pub is_in_run : Run → ℕ → Bool
is_in_run runs.Blank = is_blank
is_in_run runs.Key = is_of_key
is_in_run runs.Pair = is_of_pair
is_in_run runs.Plain = is_plain

-- what follows the rest of a pair
abbrev pub after_pair : List ℕ → List ℕ
after_pair bytes = (run_at is_of_pair bytes).1

-- what stands between quotes, up to the first quote with no backslash before it, and what follows that quote
abbrev pub closed_at : (escaped : Bool) → List ℕ → Option (List ℕ × List ℕ)
closed_at escaped [] = None
closed_at escaped (byte ∷ bytes) =
    if byte == 34 && not escaped then Some ([], bytes)
    else option_map (λ (rest : List ℕ × List ℕ). (byte ∷ rest.0, rest.1)) (closed_at (byte == 92 && not escaped) bytes)

-- the escapes of one byte: `\" \\ \/ \b \f \n \r \t`
abbrev pub escapes : Escapes
escapes = (34, 34) ∷ (92, 92) ∷ (47, 47) ∷ (8, 98) ∷ (12, 102) ∷ (10, 110) ∷ (13, 114) ∷ (9, 116) ∷ []

-- the number of the four hexadecimal digits at the front
abbrev pub unit_at : List ℕ → Option ℕ
unit_at (a ∷ b ∷ c ∷ d ∷ bytes) = hex_number 0 (a ∷ b ∷ c ∷ d ∷ [])
unit_at bytes = None

abbrev pub is_high : ℕ → Bool
is_high unit = nat_le 55296 unit && nat_lt unit 56320

abbrev pub is_low : ℕ → Bool
is_low unit = nat_le 56320 unit && nat_lt unit 57344

-- after the first half of a character: the other half, after `\u`
abbrev pub low_at : List ℕ → Option ℕ
low_at (backslash ∷ letter ∷ bytes) = if backslash == 92 && letter == 117 then option_and_then (λ unit. if is_low unit then Some unit else None) (unit_at bytes) else None
low_at bytes = None

-- after `\u`: the character, and how many bytes it takes; two halves stand for one, and a half alone for none
abbrev pub character_at : List ℕ → Option (ℕ × ℕ)
character_at bytes = option_and_then (λ unit. if is_high unit then option_map (λ low. (65536 + (unit - 55296) * 1024 + (low - 56320), 10)) (low_at (drop 4 bytes)) else (if is_low unit then None else Some (unit, 4))) (unit_at bytes)

-- after a backslash: the character that the escape stands for, and how many bytes it takes
abbrev pub escape_at : List ℕ → Option (ℕ × ℕ)
escape_at [] = None
escape_at (byte ∷ bytes) =
    if byte == 117 then option_map (λ (c : ℕ × ℕ). (c.0, suc c.1)) (character_at bytes)
    else option_map (λ c. (c, 1)) (unescape escapes byte)

-- after a backslash: the character of the escape, and what follows it
abbrev pub escape_front : List ℕ → Option (ℕ × List ℕ)
escape_front bytes = option_map (λ (e : ℕ × ℕ). (e.0, drop e.1 bytes)) (escape_at bytes)

-- a text that was read, with the bytes before it in front
abbrev pub onto : List ℕ → Option (List ℕ) → Option (List ℕ)
onto front read = option_map (λ rest. front ++ rest) read

-- what stands between quotes, escapes read; some bytes at the front are passed over
abbrev pub unescaped : ℕ → List ℕ → Option (List ℕ)
unescaped skip [] = Some []
unescaped (suc skip) (byte ∷ bytes) = unescaped skip bytes
unescaped zero (byte ∷ bytes) =
    if byte == 92 then option_and_then (λ (c : ℕ × ℕ). onto (encode_utf8 c.0) (unescaped c.1 bytes)) (escape_at bytes)
    else onto (byte ∷ []) (unescaped 0 bytes)

-- a pair follows without a blank
abbrev pub goes_on : List ℕ → Bool
goes_on [] = false
goes_on (byte ∷ bytes) = is_of_pair byte

-- a value in quotes, after the first of them; where none closes it the rest of the line is no pair
abbrev pub quoted_pair : (key : List ℕ) → Option (List ℕ × List ℕ) → Option Pair × List ℕ
quoted_pair key None = (None, [])
quoted_pair key (Some found) = (if goes_on found.1 then None else option_map (λ value. (key, value)) (unescaped 0 found.0), after_pair found.1)

-- a value without quotes has no sign of a pair in it
abbrev pub plain_pair : (key : List ℕ) → List ℕ × List ℕ → Option Pair × List ℕ
plain_pair key run = (if list_any (λ byte. byte == 61 || byte == 34) run.0 then None else Some (key, run.0), run.1)

-- the value after the sign
unfoldable pub value_at : (key : List ℕ) → List ℕ → Option Pair × List ℕ
value_at key [] = plain_pair key ([], [])
value_at key (byte ∷ bytes) = if byte == 34 then quoted_pair key (closed_at false bytes) else plain_pair key (run_at is_of_pair (byte ∷ bytes))

-- after a key: `=` and a value, or no pair
unfoldable pub after_key : (key : List ℕ) → List ℕ → Option Pair × List ℕ
after_key key [] = (None, [])
after_key key (byte ∷ bytes) = if byte == 61 && not (is_empty key) then value_at key bytes else (None, after_pair (byte ∷ bytes))

-- what stands at the front, if it is a pair, and what follows it
abbrev pub pair_at : List ℕ → Option Pair × List ℕ
pair_at bytes = let key = run_at is_of_key bytes in after_key key.0 key.1

-- the pairs among the first things that stand between blanks, up to a limit
abbrev pub pairs_in : ℕ → List ℕ → List Pair
pairs_in zero bytes = []
pairs_in (suc most) bytes =
    let start = (run_at is_blank bytes).1 in
    if is_empty start then [] else option_map_or (λ pair. pair ∷ pairs_in most (pair_at start).1) (pair_at start).0 (pairs_in most (pair_at start).1)

abbrev pub logfmt_pairs : List ℕ → List Pair
logfmt_pairs line = pairs_in (length line) line
