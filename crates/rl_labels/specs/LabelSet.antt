-- A label set: a finite map from names to texts that are not empty. It speaks by its look-ups, `label` and `value_of`, and by
-- `labels_of`, its labels by rising name.
use Rattle.std.specs.Prelude.{◌≡◌, ℕ, ◌==◌, Bool, true, false, cond, not, ◌&&◌, List, [], ◌∷◌, length, Option, None, Some, T, refl}
use Rattle.std.specs.Option.{unwrap_or, option_and_then}
use Rattle.std.specs.List.{list_all}
use Rattle.std.specs.Coded.{Coded, coded_ℕ, coded_list, coded×}
use Rattle.std.specs.FinMap.Entries.{find, put, where_key, is_sorted}
use Rattle.std.proofs.Common.{sym, subst}
use base.Stored.{coded_via}
use lib.Dec.{T_prop}
use mathlib.Core.HLevel.{Σ_prop_path}
use Rattle.rl_labels.specs.Name.{name_cmp, is_name, is_text}

-- a name and a value, as they were given
abbrev pub Pair : Type 0
Pair = List ℕ × List ℕ

abbrev pub is_empty : List ℕ → Bool
is_empty text = length text == 0

-- a name with a value that is not empty
abbrev pub is_label : Pair → Bool
is_label pair = is_name pair.0 && not (is_empty pair.1)

-- labels, by rising name
abbrev pub are_labels : List Pair → Bool
are_labels pairs = is_sorted name_cmp pairs && list_all is_label pairs

pub record LabelSet : Type 0 where
  list : List Pair
  proper : T (are_labels list)

-- the labels by rising name
pub labels_of : LabelSet → List Pair
labels_of set = set.list

-- the value of a label, if the set has it
abbrev pub label : LabelSet → List ℕ → Option (List ℕ)
label set name = find name_cmp name (labels_of set)

-- the value of a label, where a missing one reads as the empty text
abbrev pub value_of : LabelSet → List ℕ → List ℕ
value_of set name = unwrap_or (label set name) []

-- two sets with equal labels are one
pub same_labels : (s t : LabelSet) → labels_of s ≡ labels_of t → s ≡ t
unfolding labels_of
same_labels s t e =
    let pairs : ◌≡◌ {A = (es : List Pair) × T (are_labels es)} (s.list, s.proper) (t.list, t.proper) = Σ_prop_path (λ es. T_prop _) e in
    λ i. record { list = (pairs i).0; proper = (pairs i).1 }

-- a set is stored as its labels
abbrev pub label_set_code : Coded LabelSet
label_set_code = coded_via (coded_list (coded× (coded_list coded_ℕ) (coded_list coded_ℕ))) labels_of same_labels

-- the set without labels
pub no_labels : LabelSet
no_labels = record { list = []; proper = tt }

-- the set of these labels, and the old one where they are none
checked : (pairs : List Pair) (b : Bool) → are_labels pairs ≡ b → LabelSet → LabelSet
checked pairs true e old = record { list = pairs; proper = subst T (sym e) tt }
checked pairs false e old = old

-- the pairs with the value under the name, and without the name where the value is empty
abbrev pub override : List ℕ → List ℕ → List Pair → List Pair
override name value pairs = cond (is_empty value) (where_key name_cmp (λ other. not (is_text name other)) pairs) (put name_cmp name value pairs)

-- the set with one label set, or removed where the value is empty; without a name it stays as it is
pub with_label : LabelSet → List ℕ → List ℕ → LabelSet
with_label set name value = checked (override name value (labels_of set)) _ refl set

-- the set that the pairs make, in any order; an empty value makes no label
abbrev pub label_set_of : List Pair → LabelSet
label_set_of [] = no_labels
label_set_of (pair ∷ pairs) = with_label (label_set_of pairs) pair.0 pair.1

-- a value that is not empty
abbrev pub non_empty : List ℕ → Option (List ℕ)
non_empty value = cond (is_empty value) None (Some value)

-- what pairs with names give a name: its first value, unless that is empty
abbrev pub given : List Pair → List ℕ → Option (List ℕ)
given pairs name = option_and_then non_empty (find name_cmp name pairs)

-- the set of labels that are given in order
pub proper_set : (pairs : List Pair) → T (are_labels pairs) → LabelSet
proper_set pairs h = record { list = pairs; proper = h }

-- What a set's labels are: no other file can open the record.
pub labels_are_proper : (set : LabelSet) → T (are_labels (labels_of set))
unfolding labels_of
labels_are_proper set = set.proper

pub labels_of-no_labels : labels_of no_labels ≡ []
unfolding labels_of no_labels
labels_of-no_labels = refl

pub labels_of-proper_set : (pairs : List Pair) (h : T (are_labels pairs)) → labels_of (proper_set pairs h) ≡ pairs
unfolding labels_of proper_set
labels_of-proper_set pairs h = refl

labels_of-checked : (pairs : List Pair) (b : Bool) (e : are_labels pairs ≡ b) (old : LabelSet) → T b → labels_of (checked pairs b e old) ≡ pairs
unfolding labels_of checked
labels_of-checked pairs true e old h = refl
labels_of-checked pairs false e old h = absurd h

pub labels_of-with_label_checked : (set : LabelSet) (name value : List ℕ) → T (are_labels (override name value (labels_of set))) → labels_of (with_label set name value) ≡ override name value (labels_of set)
unfolding with_label
labels_of-with_label_checked set name value h = labels_of-checked (override name value (labels_of set)) _ refl set h
