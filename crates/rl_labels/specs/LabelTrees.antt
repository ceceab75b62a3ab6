-- Labels that are kept in a tree, and what one label more makes of labels.
use Rattle.std.specs.Prelude.{ℕ, List, [], ◌∷◌, is_some, if◌then◌else◌, string_bytes}
use Rattle.std.specs.declared.string.String.{String}
use Rattle.std.specs.FinMap.Entries.{find, put}
use Rattle.rl_labels.specs.Name.{name_cmp}
use Rattle.rl_labels.specs.LabelSet.{Pair}

-- the labels that the entries of a tree are
abbrev pub pairs_in : {Y : Type 0} → List (String Y × List ℕ) → List Pair
pairs_in [] = []
pairs_in (entry ∷ entries) = (string_bytes entry.0, entry.1) ∷ pairs_in entries

-- labels with one more, unless one has its name
abbrev pub with_new : (name value : List ℕ) → List Pair → List Pair
with_new name value labels = if is_some (find name_cmp name labels) then labels else put name_cmp name value labels
