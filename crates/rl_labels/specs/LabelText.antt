-- The canonical text of a label set, `{a="x",b="y"}`, and the order of label sets by its bytes.
use Rattle.std.specs.Prelude.{ℕ, Bool, List, [], ◌∷◌, ◌++◌, map, codes}
use Rattle.std.specs.List.{join_with_byte}
use Rattle.std.specs.Ordering.{nat_cmp}
use Rattle.std.specs.declared.cmp.Ordering.{Ordering}
use Rattle.std.specs.Cmp.Lexicographic.{slice_cmp}
use Rattle.rl_plain.specs.Escapes.{Escapes, escaped}
use Rattle.rl_labels.specs.Name.{is_text}
use Rattle.rl_labels.specs.LabelSet.{Pair, LabelSet, labels_of}

-- in a value a backslash, a quote and a newline are escaped, all else stands for itself
abbrev pub label_escapes : Escapes
label_escapes = (92, 92) ∷ (34, 34) ∷ (10, 110) ∷ []

-- a value between its quotes
abbrev pub value_text : List ℕ → List ℕ
value_text = escaped label_escapes

-- name="value"
abbrev pub label_text : Pair → List ℕ
label_text pair = pair.0 ++ codes "=\"" ++ value_text pair.1 ++ codes "\""

-- the labels between braces, with commas and no spaces
abbrev pub labels_text : List Pair → List ℕ
labels_text pairs = codes "{" ++ join_with_byte 44 (map label_text pairs) ++ codes "}"

unfoldable pub canonical_text : LabelSet → List ℕ
canonical_text set = labels_text (labels_of set)

-- label sets are ordered by the bytes of their canonical texts
abbrev pub label_set_cmp : LabelSet → LabelSet → Ordering
label_set_cmp s t = slice_cmp nat_cmp (canonical_text s) (canonical_text t)

-- and equal where these are
abbrev pub label_set_eq : LabelSet → LabelSet → Bool
label_set_eq s t = is_text (canonical_text s) (canonical_text t)
