-- How a text is written between quotes: some bytes as a backslash and a letter.
use Rattle.std.specs.Prelude.{◌≡◌, ℕ, ◌==◌, ◌<◌, length, ◌++◌, nat_lt, Bool, ◌&&◌, List, [], ◌∷◌, Option, None, Some, if◌then◌else◌}
use Rattle.std.specs.List.{list_all, flat_map}

-- bytes, each with the letter that follows the backslash
abbrev pub Escapes : Type 0
Escapes = List (ℕ × ℕ)

-- a byte as it is written; one that the table has not stands for itself
abbrev pub escape : Escapes → ℕ → List ℕ
escape [] byte = byte ∷ []
escape (entry ∷ table) byte = if byte == entry.0 then 92 ∷ entry.1 ∷ [] else escape table byte

-- the byte that a backslash and the letter stand for
abbrev pub unescape : Escapes → ℕ → Option ℕ
unescape [] letter = None
unescape (entry ∷ table) letter = if letter == entry.1 then Some entry.0 else unescape table letter

-- a text as it is written, byte by byte
abbrev pub escaped : Escapes → List ℕ → List ℕ
escaped table = flat_map (escape table)

-- the bytes and letters of the table are ASCII
abbrev pub are_ascii : Escapes → Bool
are_ascii = list_all (λ entry. nat_lt entry.0 128 && nat_lt entry.1 128)

-- a text is what stands before its first escape, the backslash with its letter, and what is written after them
abbrev pub IsCutAt : Escapes → List ℕ → List ℕ → ℕ → List ℕ → Type 0
IsCutAt table value plain letter following = (escaped table value ≡ plain ++ 92 ∷ letter ∷ escaped table following) × (length following < length value) × (letter < 128)
