-- Reading a label set from its canonical text.
use Rattle.std.specs.Prelude.{ℕ, zero, suc, ◌==◌, not, ◌&&◌, List, [], ◌∷◌, length, take, drop, Option, None, Some, is_some, Ok, Err, codes, if◌then◌else◌}
use Rattle.std.specs.List.{position}
use Rattle.rl_plain.specs.Answers.{◌>>=◌}
use Rattle.rl_plain.specs.Escapes.{unescape}
use Rattle.rl_labels.specs.LabelSet.{LabelSet, Pair, is_label, label, no_labels, with_label}
use Rattle.rl_labels.specs.LabelText.{label_escapes}
use Rattle.rl_labels.specs.Name.{is_text}
use Rattle.rl_segments.specs.FrameReading.{Found, Read, after, found, utf8}
use Rattle.rl_segments.specs.declared.fault.RecordFault.TheVariants.{NotARecord}

-- a name, up to the equals sign
unfoldable pub name_in : List ℕ → Read (List ℕ)
name_in bytes = found (position (λ byte. byte == 61) bytes) >>= λ at. Ok (take at bytes, drop (suc at) bytes)

-- a byte in front of a value that is read
abbrev pub with_byte : ℕ → Read (List ℕ) → Read (List ℕ)
with_byte byte read = read >>= λ value. Ok (byte ∷ value.0, value.1)

-- a value, up to the quote that ends it
unfoldable pub value_in : List ℕ → Read (List ℕ)
value_in [] = Err NotARecord
value_in (byte ∷ []) = if byte == 34 then Ok ([], []) else Err NotARecord
value_in (byte ∷ next ∷ rest) =
    if byte == 34 then Ok ([], next ∷ rest)
    else (if byte == 92 then (found (unescape label_escapes next) >>= λ own. with_byte own (value_in rest)) else with_byte byte (value_in (next ∷ rest)))

-- a name and a value
unfoldable pub pair_in : List ℕ → Read Pair
pair_in bytes = do
  name ← name_in bytes
  quoted ← after 34 name.1
  value ← value_in quoted
  own_name ← utf8 name.0
  own_value ← utf8 value.0
  Ok ((own_name, own_value), value.1)

-- a label, and what follows the comma after it; nothing where a brace ends the labels
unfoldable pub pair_then : List ℕ → Found (Pair × Option (List ℕ))
pair_then bytes = do
  pair ← pair_in bytes
  (if is_text pair.1 (codes "}") then Ok (pair.0, None) else (after 44 pair.1 >>= λ rest. Ok (pair.0, Some rest)))

-- a label in front of those that are read of what follows it
abbrev pub with_more : (List ℕ → Found (List Pair)) → Pair × Option (List ℕ) → Found (List Pair)
with_more more (pair, None) = Ok (pair ∷ [])
with_more more (pair, Some rest) = more rest >>= λ others. Ok (pair ∷ others)

-- labels with commas between them, up to the brace at the end, at most so many
unfoldable pub pairs_in : (most : ℕ) → List ℕ → Found (List Pair)
pairs_in zero bytes = Err NotARecord
pairs_in (suc n) bytes = pair_then bytes >>= with_more (pairs_in n)

-- a set with a label more, which it has not
abbrev pub with_new : Pair → LabelSet → Found LabelSet
with_new pair set = if is_label pair && not (is_some (label set pair.0)) then Ok (with_label set pair.0 pair.1) else Err NotARecord

-- the set of labels, from the last one on
unfoldable pub set_of : List Pair → Found LabelSet
set_of [] = Ok no_labels
set_of (pair ∷ pairs) = set_of pairs >>= λ set. with_new pair set

-- the set whose text it is
unfoldable pub labels_in : List ℕ → Found LabelSet
labels_in text = do
  rest ← after 123 text
  pairs ← (if is_text rest (codes "}") then Ok [] else pairs_in (length rest) rest)
  set_of pairs
