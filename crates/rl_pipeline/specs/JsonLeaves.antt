-- The leaves of a line that is a JSON object, as `json` of LogQL takes them.
use Rattle.std.specs.Prelude.{ℕ, List, [], ◌∷◌, ◌++◌, Option, Some, None, codes, if◌then◌else◌}
use Rattle.std.specs.Fmt.{decimal, signed_decimal}
use Rattle.serde_json.specs.Data.{Num, unsigned, negative, float, Data, null, boolean, number, string, array, object, Members, no_members, member}
use Rattle.serde_json.specs.Read.{read}
use Rattle.rl_labels.specs.LabelSet.{Pair}

-- a key below others is joined to them
abbrev pub below : Option (List ℕ) → List ℕ → List ℕ
below None key = key
below (Some path) key = path ++ codes "_" ++ key

-- a whole number of 64 bits gives its digits, and every other number nothing
abbrev pub number_leaf : List ℕ → Num → List Pair
number_leaf path (unsigned n) = (path, decimal n) ∷ []
number_leaf path (negative z) = (path, signed_decimal z) ∷ []
number_leaf path (float x) = []

-- keys are walked in their order, depth first
abbrev mutual
  pub leaves_at : List ℕ → Data → List Pair
  leaves_at path null = []
  leaves_at path (boolean b) = (path, if b then codes "true" else codes "false") ∷ []
  leaves_at path (number n) = number_leaf path n
  leaves_at path (string s) = (path, s) ∷ []
  leaves_at path (array items) = []
  leaves_at path (object members) = leaves_below (Some path) members

  pub leaves_below : Option (List ℕ) → Members → List Pair
  leaves_below path no_members = []
  leaves_below path (member key value members) = leaves_at (below path key) value ++ leaves_below path members

abbrev pub leaves_of : Option Data → Option (List Pair)
leaves_of (Some (object members)) = Some (leaves_below None members)
leaves_of value = None

-- none of a line that cannot be read or is no object
abbrev pub json_leaves : List ℕ → Option (List Pair)
json_leaves line = leaves_of (read line)
