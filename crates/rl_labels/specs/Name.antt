-- Names of labels, `[a-zA-Z_][a-zA-Z0-9_]*`, and their order.
use Rattle.std.specs.Prelude.{ℕ, Bool, false, not, ◌||◌, ◌&&◌, ◌==◌, nat_eq, List, [], ◌∷◌, codes}
use Rattle.std.specs.List.{list_all}
use Rattle.std.specs.Char.{is_ascii_lowercase, is_ascii_uppercase, is_ascii_digit}
use Rattle.std.specs.Ordering.{nat_cmp}
use Rattle.std.specs.declared.cmp.Ordering.{Ordering}
use Rattle.std.specs.Cmp.Lexicographic.{pointwise, slice_cmp}

-- the two texts are equal
abbrev pub is_text : List ℕ → List ℕ → Bool
is_text = pointwise nat_eq

-- by their bytes
abbrev pub name_cmp : List ℕ → List ℕ → Ordering
name_cmp = slice_cmp nat_cmp

-- an ASCII letter or an underscore
abbrev pub is_name_start : ℕ → Bool
is_name_start byte = is_ascii_lowercase byte || (is_ascii_uppercase byte || byte == 95)

-- such a byte, or an ASCII digit
abbrev pub is_name_byte : ℕ → Bool
is_name_byte byte = is_name_start byte || is_ascii_digit byte

abbrev pub is_name : List ℕ → Bool
is_name [] = false
is_name (byte ∷ bytes) = is_name_start byte && list_all is_name_byte bytes

-- a name that a stream may have: the error label is set by pipelines alone
abbrev pub is_stream_name : List ℕ → Bool
is_stream_name name = is_name name && not (is_text name (codes "__error__"))
