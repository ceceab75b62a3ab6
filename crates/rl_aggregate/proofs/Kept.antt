-- Labels of a set that are kept one after another, from the last to the first.
use Rattle.std.proofs.Common.{◌≡◌, ℕ, Bool, true, false, cond, List, [], ◌∷◌, ◌++◌, None, Some, is_some, refl, sym, ap, ◌∙◌}
use Rattle.std.specs.Option.{option_and_then}
use Rattle.std.specs.List.{filter, list_all}
use Rattle.std.specs.Ordering.{is_eq, is_lt}
use Rattle.std.specs.declared.cmp.Ordering.{Ordering}
use Rattle.std.specs.declared.cmp.Ordering.TheVariants.{Less, Equal, Greater}
use Rattle.std.specs.FinMap.Entries.{find, is_sorted, below_all}
use Rattle.std.proofs.lemmas.Bool.{and_parts, and_from, true≢false}
use Rattle.rl_plain.specs.laws.Bools.{true_from}
use Rattle.rl_labels.specs.Name.{name_cmp}
use Rattle.rl_labels.specs.LabelSet.{Pair, LabelSet, is_label, are_labels, labels_of, label, label_set_of, with_label, non_empty, labels_are_proper}
use Rattle.rl_labels.specs.laws.LabelLaws.{are_named-labels, label-label_set_of}

-- the labels from an index on are labels
labels_from : (pre rest : List Pair) → are_labels (pre ++ rest) ≡ true → are_labels rest ≡ true
labels_from [] rest h = h
labels_from (x ∷ pre) rest h =
    let parts = and_parts (is_sorted name_cmp (x ∷ pre ++ rest)) (list_all is_label (x ∷ pre ++ rest)) h in
    labels_from pre rest (and_from _ _ (and_parts (below_all name_cmp x.0 (pre ++ rest)) (is_sorted name_cmp (pre ++ rest)) parts.0).1 (and_parts (is_label x) (list_all is_label (pre ++ rest)) parts.1).1)

not_equal : (o : Ordering) → is_lt o ≡ true → is_eq o ≡ false
not_equal Less h = refl
not_equal Equal h = absurd (true≢false (sym h))
not_equal Greater h = refl

-- a name below all is not among those that are kept
find-kept : (p : Pair → Bool) (name : List ℕ) (es : List Pair) → below_all name_cmp name es ≡ true → find name_cmp name (filter p es) ≡ None
find-kept p name [] h = refl
find-kept p name (e ∷ es) h =
    let parts = and_parts (is_lt (name_cmp name e.0)) (below_all name_cmp name es) h in
    elim (p e) as (λ b. find name_cmp name (cond b (e ∷ filter p es) (filter p es)) ≡ None) [
      | true ↦ ap (λ b. cond b (Some e.1) (find name_cmp name (filter p es))) (not_equal (name_cmp name e.0) parts.0) ∙ find-kept p name es parts.1
      | false ↦ find-kept p name es parts.1
    ]

labels-kept : (p : Pair → Bool) (es : List Pair) → list_all is_label es ≡ true → list_all is_label (filter p es) ≡ true
labels-kept p [] h = refl
labels-kept p (e ∷ es) h =
    let parts = and_parts (is_label e) (list_all is_label es) h in
    elim (p e) as (λ b. list_all is_label (cond b (e ∷ filter p es) (filter p es)) ≡ true) [
      | true ↦ and_from (is_label e) _ parts.0 (labels-kept p es parts.1)
      | false ↦ labels-kept p es parts.1
    ]

following : (labels : LabelSet) (pre done : List Pair) (pair : Pair) → pre ++ pair ∷ done ≡ labels_of labels → are_labels (pair ∷ done) ≡ true
following labels pre done pair is = labels_from pre (pair ∷ done) (ap are_labels is ∙ true_from _ (labels_are_proper labels))

-- a label of a set is one
pub label_of : (labels : LabelSet) (pre done : List Pair) (pair : Pair) → pre ++ pair ∷ done ≡ labels_of labels → is_label pair ≡ true
label_of labels pre done pair is = (and_parts (is_label pair) (list_all is_label done) (and_parts (is_sorted name_cmp (pair ∷ done)) (list_all is_label (pair ∷ done)) (following labels pre done pair is)).1).0

-- the set of those that are kept after a label has none of its name
pub label-following : (p : Pair → Bool) (labels : LabelSet) (pre done : List Pair) (pair : Pair) → pre ++ pair ∷ done ≡ labels_of labels → label (label_set_of (filter p done)) pair.0 ≡ None
label-following p labels pre done pair is =
    let parts = and_parts (is_sorted name_cmp (pair ∷ done)) (list_all is_label (pair ∷ done)) (following labels pre done pair is) in
    label-label_set_of (filter p done) pair.0 (are_named-labels (filter p done) (labels-kept p done (and_parts (is_label pair) (list_all is_label done) parts.1).1))
    ∙ ap (option_and_then non_empty) (find-kept p pair.0 done (and_parts (below_all name_cmp pair.0 done) (is_sorted name_cmp done) parts.0).0)

-- so it goes to the front of them
pub added-front : (p : Pair → Bool) (labels set : LabelSet) (pre done : List Pair) (pair : Pair) → pre ++ pair ∷ done ≡ labels_of labels → set ≡ label_set_of (filter p done) → p pair ≡ true → cond (is_some (label set pair.0)) set (with_label set pair.0 pair.1) ≡ label_set_of (filter p (pair ∷ done))
added-front p labels set pre done pair is made kept =
    ap (λ s. cond (is_some (label s pair.0)) s (with_label s pair.0 pair.1)) made
    ∙ ap (λ o. cond (is_some o) (label_set_of (filter p done)) (with_label (label_set_of (filter p done)) pair.0 pair.1)) (label-following p labels pre done pair is)
    ∙ ap (λ b. label_set_of (cond b (pair ∷ filter p done) (filter p done))) (sym kept)
