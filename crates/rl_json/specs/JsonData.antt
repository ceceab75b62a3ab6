-- A JSON value of borrowed texts as the data that `serde_json` reads: where each number is in range, the two are one.
use Rattle.std.specs.Prelude.{ℕ, Bool, true, ◌&&◌, List, [], ◌∷◌, is_some}
use Rattle.std.specs.Option.{option_map_or}
use Rattle.std.specs.Borrow.{Bor}
use Rattle.json.specs.Json as json
use Rattle.json.specs.Value.{value_view}
use Rattle.json.specs.declared.value.Value.{Value}
use Rattle.serde_json.specs.Data.{Num, unsigned, negative, float, Data, null, boolean, number, string, array, object, Items, no_items, item, Members, no_members, member, put}
use Rattle.serde_json.specs.Read.{number_of}
use Rattle.rl_json.specs.declared.number.Number.{Number}
use Rattle.rl_json.specs.declared.number.Number.TheVariants as numbers

abbrev pub num_of : Number → Num
num_of (numbers.Unsigned n) = unsigned n
num_of (numbers.Negative z) = negative z
num_of (numbers.Float x) = float x

-- each number is in range
abbrev mutual
  pub in_range : json.Json → Bool
  in_range json.null = true
  in_range (json.boolean b) = true
  in_range (json.number s) = is_some (number_of s)
  in_range (json.string s) = true
  in_range (json.array items) = items_in_range items
  in_range (json.object members) = members_in_range members

  pub items_in_range : json.Items → Bool
  items_in_range json.no_items = true
  items_in_range (json.item value items) = in_range value && items_in_range items

  pub members_in_range : json.Members → Bool
  members_in_range json.no_members = true
  members_in_range (json.member key value members) = in_range value && members_in_range members

-- the data of a value; members go in one after another, so that the last value of a key stays
abbrev mutual
  pub data_of : json.Json → Data
  data_of json.null = null
  data_of (json.boolean b) = boolean b
  data_of (json.number s) = option_map_or number (number_of s) null
  data_of (json.string s) = string s
  data_of (json.array items) = array (items_data items)
  data_of (json.object members) = object (members_data members no_members)

  pub items_data : json.Items → Items
  items_data json.no_items = no_items
  items_data (json.item value items) = item (data_of value) (items_data items)

  pub members_data : json.Members → Members → Members
  members_data json.no_members found = found
  members_data (json.member key value members) found = members_data members (put key (data_of value) found)

-- members in a map of references
abbrev pub referred : {A : Type 0} → List (Bor (List ℕ) × Bor (Value A)) → Members
referred [] = no_members
referred (entry ∷ entries) = member entry.0.now (data_of (value_view entry.1.now)) (referred entries)

-- such members in front of others
abbrev pub in_front : {A : Type 0} → List (Bor (List ℕ) × Bor (Value A)) → Members → Members
in_front [] others = others
in_front (entry ∷ entries) others = member entry.0.now (data_of (value_view entry.1.now)) (in_front entries others)
