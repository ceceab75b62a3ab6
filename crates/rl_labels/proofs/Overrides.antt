-- An override of a set's labels, as a list and as a set.
use Rattle.std.proofs.Common.{◌≡◌, ℕ, List, true, ap, sym, ◌∙◌}
use Rattle.rl_labels.specs.Name.{is_name}
use Rattle.rl_labels.specs.LabelSet.{Pair, LabelSet, are_labels, labels_of, labels_are_proper, same_labels, override, with_label, label_set_of}
use Rattle.rl_labels.specs.laws.LabelLaws.{proper-override, labels_of-with_label, labels_of-label_set_of}
use Rattle.rl_plain.specs.laws.Bools.{true_from}

pub override_labels : (set : LabelSet) (name value : List ℕ) (pairs : List Pair) → is_name name ≡ true → pairs ≡ override name value (labels_of set) → are_labels pairs ≡ true
override_labels set name value pairs named is = ap are_labels is ∙ proper-override name value (labels_of set) named (true_from _ (labels_are_proper set))

pub override_set : (set : LabelSet) (name value : List ℕ) (pairs : List Pair) → is_name name ≡ true → pairs ≡ override name value (labels_of set) → label_set_of pairs ≡ with_label set name value
override_set set name value pairs named is =
    same_labels (label_set_of pairs) (with_label set name value)
    (labels_of-label_set_of pairs (override_labels set name value pairs named is) ∙ is ∙ sym (labels_of-with_label set name value named))
