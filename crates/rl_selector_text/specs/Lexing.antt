-- The tokens of a text.
use Rattle.std.specs.Prelude.{ℕ, zero, suc, ◌+◌, ◌-◌, ◌==◌, nat_le, nat_lt, Bool, true, false, not, ◌&&◌, ◌||◌, List, [], ◌∷◌, length, drop, slice_index, Option, Some, None, if◌then◌else◌, encode_utf8}
use Rattle.std.specs.Option.{option_and_then, option_map}
use Rattle.std.specs.Char.{is_ascii_digit}
use Rattle.rl_plain.specs.Escapes.{unescape}
use Rattle.rl_plain.specs.Hexadecimal.{hex_number}
use Rattle.rl_plain.specs.Runs.{onto, run_at}
use Rattle.rl_labels.specs.Name.{is_name_start, is_name_byte}
use Rattle.rl_query.specs.declared.token.Sign.{Sign}
use Rattle.rl_selector_text.specs.Bytes.{tab, line_feed, carriage_return, space, quote, hash, point, backslash, backquote, letter_u}
use Rattle.rl_selector_text.specs.declared.lexer.Run.{Run}
use Rattle.rl_selector_text.specs.declared.lexer.Run.TheVariants as runs
use Rattle.rl_query.specs.declared.token.Token.{Token}
use Rattle.rl_query.specs.declared.token.Token.TheVariants as tokens
use Rattle.rl_query.specs.declared.token.Lexeme.{Lexeme}
use Rattle.rl_query.specs.Tables.{one_byte, two_bytes, escapes}

-- a space, a tab, a carriage return or a line feed
abbrev pub is_space : ℕ → Bool
is_space byte = byte == space || (byte == tab || (byte == carriage_return || byte == line_feed))

-- how many bytes of spaces and of comments, `#` up to the end of the line, stand at the front; in a comment from the start or not
abbrev pub gap_len : Bool → List ℕ → ℕ
gap_len comment [] = 0
gap_len true (byte ∷ bytes) = 1 + gap_len (not (byte == line_feed)) bytes
gap_len false (byte ∷ bytes) = if is_space byte then 1 + gap_len false bytes else (if byte == hash then 1 + gap_len true bytes else 0)

-- a byte of a number: a digit, a letter, an underscore, a point, or one of a character beyond ASCII, as micro signs are
abbrev pub is_number_byte : ℕ → Bool
is_number_byte byte = is_name_byte byte || (byte == point || nat_le 128 byte)

-- the character of a number, which is no surrogate
abbrev pub character : ℕ → Option ℕ
character n = if nat_le 55296 n && nat_le n 57343 then None else Some n

-- the character of four hexadecimal digits at the front
abbrev pub unicode_at : List ℕ → Option ℕ
unicode_at bytes = if nat_lt (length bytes) 4 then None else option_and_then character (hex_number 0 (slice_index bytes 0 ∷ slice_index bytes 1 ∷ slice_index bytes 2 ∷ slice_index bytes 3 ∷ []))

-- after a backslash: the character that the escape stands for, and how many bytes it takes
abbrev pub escape_at : List ℕ → Option (ℕ × ℕ)
escape_at [] = None
escape_at (byte ∷ bytes) =
    if byte == letter_u then option_map (λ c. (c, 5)) (unicode_at bytes)
    else option_map (λ c. (c, 1)) (unescape escapes byte)

-- that character, and what follows the escape
abbrev pub escape_front : List ℕ → Option (ℕ × List ℕ)
escape_front bytes = option_map (λ (e : ℕ × ℕ). (e.0, drop e.1 bytes)) (escape_at bytes)

-- after a quote: the text up to the next quote that is not escaped, and what follows it; `skip` bytes at the front are passed over
abbrev pub quoted : ℕ → List ℕ → Option (List ℕ × List ℕ)
quoted skip [] = None
quoted (suc skip) (byte ∷ bytes) = quoted skip bytes
quoted zero (byte ∷ bytes) =
    if byte == quote then Some ([], bytes)
    else (if byte == backslash then option_and_then (λ c. onto (encode_utf8 c.0) (quoted c.1 bytes)) (escape_at bytes)
    else onto (byte ∷ []) (quoted 0 bytes))

-- after a backquote: the text up to the next one, and what follows it
abbrev pub backquoted : List ℕ → Option (List ℕ × List ℕ)
backquoted [] = None
backquoted (byte ∷ bytes) = if byte == backquote then Some ([], bytes) else onto (byte ∷ []) (backquoted bytes)

-- the first of two answers
abbrev pub or_else : Option (Sign × List ℕ) → Option (Sign × List ℕ) → Option (Sign × List ℕ)
or_else (Some x) other = Some x
or_else None other = other

-- the longest sign at the front, and what follows it
abbrev pub sign_at : List ℕ → Option (Sign × List ℕ)
sign_at [] = None
sign_at (first ∷ []) = option_map (λ sign. (sign, [])) (one_byte first)
sign_at (first ∷ second ∷ rest) = or_else (option_map (λ sign. (sign, rest)) (two_bytes first second)) (option_map (λ sign. (sign, second ∷ rest)) (one_byte first))

-- a token with what follows it; what begins none is a bad token up to the end
abbrev pub or_bad : {A : Type 0} → (A → Token) → Option (A × List ℕ) → Token × List ℕ
or_bad token None = (tokens.Bad, [])
or_bad token (Some x) = (token x.0, x.1)

-- the token that begins a text, and what follows it: the longest word or number, a text up to its quote, or the longest sign
unfoldable pub token_at : List ℕ → Token × List ℕ
token_at [] = (tokens.End, [])
token_at (byte ∷ bytes) =
    if is_name_start byte then (tokens.Word (run_at is_name_byte (byte ∷ bytes)).0, (run_at is_name_byte (byte ∷ bytes)).1)
    else (if is_ascii_digit byte then (tokens.Number (run_at is_number_byte (byte ∷ bytes)).0, (run_at is_number_byte (byte ∷ bytes)).1)
    else (if byte == quote then or_bad tokens.Text (quoted 0 bytes)
    else (if byte == backquote then or_bad tokens.Text (backquoted bytes)
    else or_bad tokens.Sign (sign_at (byte ∷ bytes)))))

-- at most `most` tokens and the end, each after spaces and comments, with their offsets in a text of `total` bytes
unfoldable pub lexemes_in : ℕ → ℕ → List ℕ → List Lexeme
lexemes_in zero total bytes = record { token = tokens.End; offset = total } ∷ []
lexemes_in (suc most) total bytes =
    let start = drop (gap_len false bytes) bytes in
    if length start == 0 then record { token = tokens.End; offset = total } ∷ [] else record { token = (token_at start).0; offset = total - length start } ∷ lexemes_in most total (token_at start).1

-- the tokens of a text, which are no more than its bytes, and the end
abbrev pub lexemes_of : List ℕ → List Lexeme
lexemes_of text = lexemes_in (length text) (length text) text

-- a byte that stands for itself between quotes, and between backquotes
abbrev pub is_plain : ℕ → Bool
is_plain byte = not (byte == quote || byte == backslash)

abbrev pub is_raw : ℕ → Bool
is_raw byte = not (byte == backquote)

-- a byte goes on with a run
abbrev pub is_in_run : Run → ℕ → Bool
is_in_run runs.Word byte = is_name_byte byte
is_in_run runs.Number byte = is_number_byte byte
is_in_run runs.Plain byte = is_plain byte
is_in_run runs.Raw byte = is_raw byte
