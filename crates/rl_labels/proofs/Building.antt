-- Labels put one by one among labels by rising name.
use Rattle.std.proofs.Common.{◌≡◌, ℕ, ◌<◌, true, false, cond, not, List, [], ◌∷◌, ◌++◌, length, get_or, take, drop, drop-cons, zero, suc, None, Some, is_some, refl, sym, ap, ◌∙◌, arith}
use Rattle.std.specs.List.{insert}
use Rattle.std.specs.Ordering.{is_eq, is_lt, eq_by_cmp, ordering_reverse}
use Rattle.std.specs.declared.cmp.Ordering.{Ordering}
use Rattle.std.specs.declared.cmp.Ordering.TheVariants.{Less, Equal, Greater}
use Rattle.std.specs.FinMap.Entries.{find, put, where_key, by_order, below_all, is_sorted}
use Rattle.std.proofs.lemmas.Bool.{and_parts, and_from, true≢false}
use Rattle.rl_plain.specs.laws.Bools.{true_from}
use Rattle.rl_labels.specs.Name.{name_cmp, is_name, is_text}
use Rattle.rl_labels.specs.LabelSet.{Pair, LabelSet, is_empty, is_label, are_labels, labels_of, labels_are_proper, label, same_labels, override, with_label, label_set_of}
use Rattle.rl_labels.specs.LabelTrees.{with_new}
use Rattle.rl_labels.specs.laws.LabelLaws.{name_cmp_total, proper-override, labels_of-with_label, labels_of-label_set_of}

-- the labels of a set are in order, and make it
pub set_in_order : (set : LabelSet) → are_labels (labels_of set) ≡ true
set_in_order set = true_from _ (labels_are_proper set)

pub set_again : (set : LabelSet) → label_set_of (labels_of set) ≡ set
set_again set = same_labels _ set (labels_of-label_set_of (labels_of set) (set_in_order set))

-- what labels have at a name is what the set has that they make
pub label_in : (es : List Pair) → are_labels es ≡ true → (name : List ℕ) → find name_cmp name es ≡ label (label_set_of es) name
label_in es h name = ap (find name_cmp name) (sym (labels_of-label_set_of es h))

is_less : (o : Ordering) → is_lt o ≡ true → o ≡ Less
is_less Less h = refl
is_less Equal h = absurd (true≢false (sym h))
is_less Greater h = absurd (true≢false (sym h))

greater_turned : (x y : List ℕ) → name_cmp x y ≡ Greater → name_cmp y x ≡ Less
greater_turned x y h = name_cmp_total.antisymm y x ∙ ap ordering_reverse h

pub less_turned : (x y : List ℕ) → name_cmp x y ≡ Less → name_cmp y x ≡ Greater
less_turned x y h = name_cmp_total.antisymm y x ∙ ap ordering_reverse h

-- a name below all is below each
pub below_each : (name : List ℕ) (labels : List Pair) (i : ℕ) (pair : Pair) → below_all name_cmp name labels ≡ true → i < length labels → pair ≡ get_or labels i pair → name_cmp name pair.0 ≡ Less
below_each name [] i pair h in' is = absurd (omega arith)
below_each name (e ∷ es) zero pair h in' is = ap (λ p. name_cmp name p.0) is ∙ is_less (name_cmp name e.0) (and_parts (is_lt (name_cmp name e.0)) (below_all name_cmp name es) h).0
below_each name (e ∷ es) (suc i) pair h in' is = below_each name es i pair (and_parts (is_lt (name_cmp name e.0)) (below_all name_cmp name es) h).1 (omega arith) is

module _ (name : List ℕ) where
  -- a name below all labels is none of theirs
  pub find_below : (es : List Pair) → below_all name_cmp name es ≡ true → find name_cmp name es ≡ None
  find_below [] h = refl
  find_below (e ∷ es) h =
      let parts = and_parts (is_lt (name_cmp name e.0)) (below_all name_cmp name es) h in
      ap (λ o. cond (is_eq o) (Some e.1) (find name_cmp name es)) (is_less (name_cmp name e.0) parts.0) ∙ find_below es parts.1

  -- and stands in front of them
  pub put_below : (value : List ℕ) (es : List Pair) → below_all name_cmp name es ≡ true → put name_cmp name value es ≡ (name, value) ∷ es
  put_below value [] h = refl
  put_below value (e ∷ es) h = ap (λ o. by_order o ((name, value) ∷ e ∷ es) ((e.0, value) ∷ es) (e ∷ put name_cmp name value es)) (is_less (name_cmp name e.0) (and_parts (is_lt (name_cmp name e.0)) (below_all name_cmp name es) h).0)

  -- the labels up to one that is below the name are passed over
  pub find_after : (es : List Pair) (i : ℕ) (pair : Pair) → is_sorted name_cmp es ≡ true → i < length es → pair ≡ get_or es i pair → name_cmp name pair.0 ≡ Greater → find name_cmp name es ≡ find name_cmp name (drop (suc i) es)
  find_after [] i pair sorted in' is above = absurd (omega arith)
  find_after (e ∷ es) zero pair sorted in' is above = ap (λ o. cond (is_eq o) (Some e.1) (find name_cmp name es)) (ap (λ p. name_cmp name p.0) (sym is) ∙ above)
  find_after (e ∷ es) (suc i) pair sorted in' is above =
      let parts = and_parts (below_all name_cmp e.0 es) (is_sorted name_cmp es) sorted in
      let first = less_turned e.0 name (name_cmp_total.trans e.0 pair.0 name (below_each e.0 es i pair parts.0 (omega arith) is) (greater_turned name pair.0 above)) in
      ap (λ o. cond (is_eq o) (Some e.1) (find name_cmp name es)) first ∙ find_after es i pair parts.1 (omega arith) is above

  put_after : (value : List ℕ) (es : List Pair) (i : ℕ) (pair : Pair) → is_sorted name_cmp es ≡ true → i < length es → pair ≡ get_or es i pair → name_cmp name pair.0 ≡ Greater → put name_cmp name value es ≡ take (suc i) es ++ put name_cmp name value (drop (suc i) es)
  put_after value [] i pair sorted in' is above = absurd (omega arith)
  put_after value (e ∷ es) zero pair sorted in' is above = ap (λ o. by_order o ((name, value) ∷ e ∷ es) ((e.0, value) ∷ es) (e ∷ put name_cmp name value es)) (ap (λ p. name_cmp name p.0) (sym is) ∙ above)
  put_after value (e ∷ es) (suc i) pair sorted in' is above =
      let parts = and_parts (below_all name_cmp e.0 es) (is_sorted name_cmp es) sorted in
      let first = less_turned e.0 name (name_cmp_total.trans e.0 pair.0 name (below_each e.0 es i pair parts.0 (omega arith) is) (greater_turned name pair.0 above)) in
      ap (λ o. by_order o ((name, value) ∷ e ∷ es) ((e.0, value) ∷ es) (e ∷ put name_cmp name value es)) first
      ∙ ap (λ t. e ∷ t) (put_after value es i pair parts.1 (omega arith) is above)

  -- a label with the name is found
  pub find_there : (es : List Pair) (i : ℕ) (pair : Pair) → i < length es → pair ≡ get_or es i pair → name_cmp name pair.0 ≡ Equal → is_some (find name_cmp name es) ≡ true
  find_there [] i pair in' is tied = absurd (omega arith)
  find_there (e ∷ es) zero pair in' is tied = ap (λ o. is_some (cond (is_eq o) (Some e.1) (find name_cmp name es))) (ap (λ p. name_cmp name p.0) (sym is) ∙ tied)
  find_there (e ∷ es) (suc i) pair in' is tied = elim (eq_by_cmp name_cmp name e.0) as (λ b. is_some (cond b (Some e.1) (find name_cmp name es)) ≡ true) [
    | true ↦ refl
    | false ↦ find_there es i pair (omega arith) is tied
  ]

  -- one more label is above the name
  pub below_more : (es : List Pair) (i : ℕ) (pair : Pair) → i < length es → pair ≡ get_or es i pair → name_cmp name pair.0 ≡ Less → below_all name_cmp name (drop (suc i) es) ≡ true → below_all name_cmp name (drop i es) ≡ true
  below_more es i pair in' is below h = ap (below_all name_cmp name) (drop-cons es i pair in' ∙ ap (λ p. p ∷ drop (suc i) es) (sym is)) ∙ and_from (is_lt (name_cmp name pair.0)) _ (ap is_lt below) h

  -- after a label that is below the name, and before those above it, no label has the name
  pub absent_at : (es : List Pair) (i : ℕ) (pair : Pair) → is_sorted name_cmp es ≡ true → i < length es → pair ≡ get_or es i pair → name_cmp name pair.0 ≡ Greater → below_all name_cmp name (drop (suc i) es) ≡ true → find name_cmp name es ≡ None
  absent_at es i pair sorted in' is above below = find_after es i pair sorted in' is above ∙ find_below (drop (suc i) es) below

  -- and one would stand there
  pub placed_at : (value : List ℕ) (es : List Pair) (i : ℕ) (pair : Pair) → is_sorted name_cmp es ≡ true → i < length es → pair ≡ get_or es i pair → name_cmp name pair.0 ≡ Greater → below_all name_cmp name (drop (suc i) es) ≡ true → put name_cmp name value es ≡ insert es (suc i) (name, value)
  placed_at value es i pair sorted in' is above below = put_after value es i pair sorted in' is above ∙ ap (λ t. take (suc i) es ++ t) (put_below value (drop (suc i) es) below)

module _ (name value : List ℕ) (es : List Pair) (this : is_label (name, value) ≡ true) (h : are_labels es ≡ true) where
  is_named : is_name name ≡ true
  is_named = (and_parts (is_name name) (not (is_empty value)) this).0

  is_put : override name value es ≡ put name_cmp name value es
  is_put = elim (is_empty value) as (λ b. not b ≡ true → cond b (where_key name_cmp (λ other. not (is_text name other)) es) (put name_cmp name value es) ≡ put name_cmp name value es) [
    | true ↦ λ e. absurd (true≢false (sym e))
    | false ↦ λ e. refl
  ] (and_parts (is_name name) (not (is_empty value)) this).1

  -- labels into which one was put
  pub are_put : are_labels (put name_cmp name value es) ≡ true
  are_put = ap are_labels (sym is_put) ∙ proper-override name value es is_named h

  pub set_put : label_set_of (put name_cmp name value es) ≡ with_label (label_set_of es) name value
  set_put = same_labels _ _ (
      labels_of-label_set_of (put name_cmp name value es) are_put ∙ sym is_put
      ∙ ap (override name value) (sym (labels_of-label_set_of es h))
      ∙ sym (labels_of-with_label (label_set_of es) name value is_named))

module _ (name value : List ℕ) (es : List Pair) (this : is_label (name, value) ≡ true) (are : are_labels es ≡ true) where
  -- labels with one more, unless one has its name
  pub new_are : are_labels (with_new name value es) ≡ true
  new_are = elim (is_some (find name_cmp name es)) as (λ b. are_labels (cond b es (put name_cmp name value es)) ≡ true) [
    | true ↦ are
    | false ↦ are_put name value es this are
  ]

  pub new_set : (set : LabelSet) → label_set_of es ≡ set → label_set_of (with_new name value es) ≡ cond (is_some (label set name)) set (with_label set name value)
  new_set set of_set =
      elim (is_some (find name_cmp name es)) as (λ b. label_set_of (cond b es (put name_cmp name value es)) ≡ cond b set (with_label set name value)) [
        | true ↦ of_set
        | false ↦ set_put name value es this are ∙ ap (λ s. with_label s name value) of_set
      ]
      ∙ ap (λ b. cond b set (with_label set name value)) (ap is_some (label_in es are name) ∙ ap (λ s. is_some (label s name)) of_set)

-- one is added where it stands
pub new_placed : (name value : List ℕ) (es : List Pair) (index : ℕ) → find name_cmp name es ≡ None → put name_cmp name value es ≡ insert es index (name, value) → insert es index (name, value) ≡ with_new name value es
new_placed name value es index absent placed = sym placed ∙ sym (ap (λ found. cond (is_some found) es (put name_cmp name value es)) absent)

-- and none where the name is there
pub not_new : (name value : List ℕ) (es : List Pair) → is_some (find name_cmp name es) ≡ true → es ≡ with_new name value es
not_new name value es there = sym (ap (λ b. cond b es (put name_cmp name value es)) there)
