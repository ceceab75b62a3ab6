-- The labels that the pairs of a parser become.
use Rattle.std.specs.Prelude.{ℕ, Bool, false, ◌||◌, List, [], ◌∷◌, ◌++◌, map, is_some, codes, if◌then◌else◌}
use Rattle.std.specs.Char.{is_ascii_digit}
use Rattle.rl_labels.specs.LabelSet.{LabelSet, Pair, label, is_empty, with_label}
use Rattle.rl_labels.specs.Name.{is_name_byte, is_text}

-- a byte that no name has is an underscore
abbrev pub name_byte : ℕ → ℕ
name_byte byte = if is_name_byte byte then byte else 95

abbrev pub begins_with_digit : List ℕ → Bool
begins_with_digit [] = false
begins_with_digit (byte ∷ bytes) = is_ascii_digit byte

-- the name that a key becomes: no digit stands first
abbrev pub name_of_key : List ℕ → List ℕ
name_of_key key = (if begins_with_digit key then codes "_" else []) ++ map name_byte key

abbrev pub error_name : List ℕ
error_name = codes "__error__"

-- the set has a label with the name
abbrev pub has : LabelSet → List ℕ → Bool
has labels name = is_some (label labels name)

-- a pair without a name or a value gives no label, and none is the label of errors
abbrev pub gives_none : (name value : List ℕ) → Bool
gives_none name value = is_empty name || (is_text name error_name || is_empty value)

-- the name of a label beside those of the stream
abbrev pub beside : (stream : LabelSet) → List ℕ → List ℕ
beside stream name = if has stream name then name ++ codes "_extracted" else name

-- one label more; of two with one name the first stays
abbrev pub with_new : LabelSet → (name value : List ℕ) → LabelSet
with_new labels name value = if has labels name then labels else with_label labels name value

-- the label that a name and a value give, if they give one
abbrev pub with_named : (stream : LabelSet) → LabelSet → (name value : List ℕ) → LabelSet
with_named stream labels name value = if gives_none name value then labels else with_new labels (beside stream name) value

-- one pair more
abbrev pub with_pair : (stream : LabelSet) → LabelSet → Pair → LabelSet
with_pair stream labels pair = with_named stream labels (name_of_key pair.0) pair.1

-- the pairs from left to right
abbrev pub with_pairs : (stream : LabelSet) → LabelSet → List Pair → LabelSet
with_pairs stream labels [] = labels
with_pairs stream labels (pair ∷ pairs) = with_pairs stream (with_pair stream labels pair) pairs

-- an error that is set is not replaced
abbrev pub with_error : LabelSet → (error : List ℕ) → LabelSet
with_error labels error = with_new labels error_name error
