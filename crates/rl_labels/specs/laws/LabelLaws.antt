-- What label sets answer after a change, and that two sets with equal answers are one.
use Rattle.std.specs.Prelude.{◌≡◌, ℕ, Bool, true, false, cond, not, List, [], ◌∷◌, Option, None, Some, T, refl}
use Rattle.std.specs.Option.{option_and_then}
use Rattle.std.specs.List.{list_all}
use Rattle.std.specs.Ordering.{eq_by_cmp, is_eq}
use Rattle.std.specs.declared.cmp.Ordering.{Ordering}
use Rattle.std.specs.declared.cmp.Ordering.TheVariants.{Less, Equal, Greater}
use Rattle.std.specs.Cmp.{IsTotalOrder}
use Rattle.std.specs.Cmp.Lexicographic.{nat_list_cmp_total, nat_list_eq_equiv, texts_ties}
use Rattle.std.specs.FinMap.{IsAntisymmetric, slice_cmp-IsAntisymmetric, nat_cmp-IsAntisymmetric}
use Rattle.std.specs.FinMap.Entries.{find, put, where_key, is_sorted, is_sorted-put, is_sorted-where_key, find-put, find-where_key, same_entries, by_order}
use Rattle.std.proofs.Common.{sym, ap, subst, ◌∙◌}
use Rattle.std.proofs.lemmas.Bool.{and_parts, and_from, true≢false}
use Rattle.rl_plain.specs.laws.Bools.{true_from}
use Rattle.std.proofs.lemmas.Float.{T_from_true}
use Rattle.rl_labels.specs.Name.{name_cmp, is_name, is_text}
use Rattle.rl_labels.specs.LabelSet.{Pair, is_empty, is_label, are_labels, LabelSet, labels_of, label, same_labels, labels_are_proper, override, with_label, label_set_of, non_empty, given, labels_of-with_label_checked, labels_of-no_labels}

pub name_cmp_total : IsTotalOrder name_cmp
name_cmp_total = nat_list_cmp_total

pub name_cmp-IsAntisymmetric : IsAntisymmetric name_cmp
name_cmp-IsAntisymmetric = slice_cmp-IsAntisymmetric nat_cmp-IsAntisymmetric

is_eq-true : (o : Ordering) → is_eq o ≡ true → o ≡ Equal
is_eq-true Less e = absurd (true≢false (sym e))
is_eq-true Equal e = refl
is_eq-true Greater e = absurd (true≢false (sym e))

-- two texts that are tested equal are one
pub same_text : (a b : List ℕ) → is_text a b ≡ true → a ≡ b
same_text a b e = name_cmp-IsAntisymmetric a b (is_eq-true (name_cmp a b) (sym (texts_ties a b) ∙ e))

pub is_text_itself : (a : List ℕ) → is_text a a ≡ true
is_text_itself a = nat_list_eq_equiv.refl a

pub other_texts : (a b : List ℕ) → (a ≡ b → ⊥) → is_text a b ≡ false
other_texts a b other = elim (is_text a b) as (λ t. is_text a b ≡ t → t ≡ false) [
  | true ↦ λ e. absurd (other (same_text a b e))
  | false ↦ λ e. refl
] refl

labels_filter : (p : List ℕ → Bool) (pairs : List Pair) → list_all is_label pairs ≡ true → list_all is_label (where_key name_cmp p pairs) ≡ true
labels_filter p [] h = refl
labels_filter p (e ∷ es) h =
    let parts = and_parts (is_label e) (list_all is_label es) h in
    let rest = labels_filter p es parts.1 in
    elim (p e.0) as (λ b. list_all is_label (cond b (e ∷ where_key name_cmp p es) (where_key name_cmp p es)) ≡ true) [
      | true ↦ and_from (is_label e) _ parts.0 rest
      | false ↦ rest
    ]

labels_put : (name value : List ℕ) (pairs : List Pair) → is_label (name, value) ≡ true → list_all is_label pairs ≡ true → list_all is_label (put name_cmp name value pairs) ≡ true
labels_put name value [] this h = and_from (is_label (name, value)) true this refl
labels_put name value (e ∷ es) this h =
    let parts = and_parts (is_label e) (list_all is_label es) h in
    elim (name_cmp name e.0) as (λ o. name_cmp name e.0 ≡ o → list_all is_label (by_order o ((name, value) ∷ e ∷ es) ((e.0, value) ∷ es) (e ∷ put name_cmp name value es)) ≡ true) [
      | Less ↦ λ o. and_from (is_label (name, value)) _ this h
      | Equal ↦ λ o. and_from (is_label (e.0, value)) _ (subst (λ n. is_label (n, value) ≡ true) (name_cmp-IsAntisymmetric name e.0 o) this) parts.1
      | Greater ↦ λ o. and_from (is_label e) _ parts.0 (labels_put name value es this parts.1)
    ] refl

-- an override by a name leaves labels in order
pub proper-override : (name value : List ℕ) (pairs : List Pair) → is_name name ≡ true → are_labels pairs ≡ true → are_labels (override name value pairs) ≡ true
proper-override name value pairs named h =
    let parts = and_parts (is_sorted name_cmp pairs) (list_all is_label pairs) h in
    elim (is_empty value) as (λ b. is_empty value ≡ b → are_labels (cond b (where_key name_cmp (λ other. not (is_text name other)) pairs) (put name_cmp name value pairs)) ≡ true) [
      | true ↦ λ e. and_from _ _ (true_from _ (is_sorted-where_key name_cmp (λ other. not (is_text name other)) pairs (T_from_true _ parts.0))) (labels_filter (λ other. not (is_text name other)) pairs parts.1)
      | false ↦ λ e. and_from _ _ (true_from _ (is_sorted-put name_cmp name_cmp_total name value pairs (T_from_true _ parts.0))) (labels_put name value pairs (and_from (is_name name) _ named (ap not e)) parts.1)
    ] refl

-- the labels of an overridden set
pub labels_of-with_label : (set : LabelSet) (name value : List ℕ) → is_name name ≡ true → labels_of (with_label set name value) ≡ override name value (labels_of set)
labels_of-with_label set name value named =
    labels_of-with_label_checked set name value (T_from_true _ (proper-override name value (labels_of set) named (true_from _ (labels_are_proper set))))

-- a look-up after an override of a list of labels
find-override : (name value : List ℕ) (pairs : List Pair) (q : List ℕ) → find name_cmp q (override name value pairs) ≡ cond (is_text q name) (non_empty value) (find name_cmp q pairs)
find-override name value pairs q =
    elim (is_empty value) as (λ b. find name_cmp q (cond b (where_key name_cmp (λ other. not (is_text name other)) pairs) (put name_cmp name value pairs)) ≡ cond (is_text q name) (cond b None (Some value)) (find name_cmp q pairs)) [
      | true ↦ find-where_key name_cmp (λ other. not (is_text name other)) q (λ x tied. ap (λ n. not (is_text name n)) (sym (name_cmp-IsAntisymmetric q x tied))) pairs
          ∙ ap (λ b. cond (not b) (find name_cmp q pairs) None) (nat_list_eq_equiv.symm name q)
          ∙ turned (is_text q name) _ _
      | false ↦ find-put name_cmp name_cmp_total q name value pairs ∙ ap (λ b. cond b (Some value) (find name_cmp q pairs)) (sym (texts_ties q name))
    ]
  where
    turned : {A : Type 0} (b : Bool) (x y : A) → cond (not b) x y ≡ cond b y x
    turned true x y = refl
    turned false x y = refl

-- a look-up after a label was set
pub label-with_label : (set : LabelSet) (name value q : List ℕ) → is_name name ≡ true → label (with_label set name value) q ≡ cond (is_text q name) (non_empty value) (label set q)
label-with_label set name value q named =
    ap (find name_cmp q) (labels_of-with_label set name value named) ∙ find-override name value (labels_of set) q

-- two sets that answer alike are one
pub same_label_set : (s t : LabelSet) → ((q : List ℕ) → label s q ≡ label t q) → s ≡ t
same_label_set s t alike =
    let sorted : (u : LabelSet) → T (is_sorted name_cmp (labels_of u)) = λ u. T_from_true _ (and_parts (is_sorted name_cmp (labels_of u)) (list_all is_label (labels_of u)) (true_from _ (labels_are_proper u))).0 in
    same_labels s t (same_entries name_cmp name_cmp_total name_cmp-IsAntisymmetric (labels_of s) (labels_of t) (sorted s) (sorted t) alike)

-- each pair has a name
abbrev pub are_named : List Pair → Bool
are_named = list_all (λ pair. is_name pair.0)

given-cons : (b : Bool) (value : List ℕ) (rest : Option (List ℕ)) → cond b (non_empty value) (option_and_then non_empty rest) ≡ option_and_then non_empty (cond b (Some value) rest)
given-cons true value rest = refl
given-cons false value rest = refl

-- what the set of some pairs answers
pub label-label_set_of : (pairs : List Pair) (q : List ℕ) → are_named pairs ≡ true → label (label_set_of pairs) q ≡ given pairs q
label-label_set_of [] q h = ap (find name_cmp q) labels_of-no_labels
label-label_set_of (e ∷ es) q h =
    let parts = and_parts (is_name e.0) (are_named es) h in
    label-with_label (label_set_of es) e.0 e.1 q parts.0
    ∙ ap (cond (is_text q e.0) (non_empty e.1)) (label-label_set_of es q parts.1)
    ∙ given-cons (is_text q e.0) e.1 (find name_cmp q es)
    ∙ ap (λ b. option_and_then non_empty (cond b (Some e.1) (find name_cmp q es))) (texts_ties q e.0)

-- labels have names
pub are_named-labels : (pairs : List Pair) → list_all is_label pairs ≡ true → are_named pairs ≡ true
are_named-labels [] h = refl
are_named-labels (e ∷ es) h =
    let parts = and_parts (is_label e) (list_all is_label es) h in
    and_from (is_name e.0) _ (and_parts (is_name e.0) (not (is_empty e.1)) parts.0).0 (are_named-labels es parts.1)

-- labels give what they have
pub given-labels : (pairs : List Pair) (q : List ℕ) → list_all is_label pairs ≡ true → given pairs q ≡ find name_cmp q pairs
given-labels [] q h = refl
given-labels (e ∷ es) q h =
    let parts = and_parts (is_label e) (list_all is_label es) h in
    let full = (and_parts (is_name e.0) (not (is_empty e.1)) parts.0).1 in
    elim (eq_by_cmp name_cmp q e.0) as (λ b. option_and_then non_empty (cond b (Some e.1) (find name_cmp q es)) ≡ cond b (Some e.1) (find name_cmp q es)) [
      | true ↦ filled (is_empty e.1) full
      | false ↦ given-labels es q parts.1
    ]
  where
    filled : (b : Bool) → not b ≡ true → cond b None (Some e.1) ≡ Some e.1
    filled true h = absurd (true≢false (sym h))
    filled false h = refl

-- labels in order are those of their set
pub labels_of-label_set_of : (pairs : List Pair) → are_labels pairs ≡ true → labels_of (label_set_of pairs) ≡ pairs
labels_of-label_set_of pairs h =
    let parts = and_parts (is_sorted name_cmp pairs) (list_all is_label pairs) h in
    let set = label_set_of pairs in
    same_entries name_cmp name_cmp_total name_cmp-IsAntisymmetric (labels_of set) pairs (T_from_true _ (and_parts (is_sorted name_cmp (labels_of set)) (list_all is_label (labels_of set)) (true_from _ (labels_are_proper set))).0) (T_from_true _ parts.0)
    (λ q. label-label_set_of pairs q (are_named-labels pairs parts.1) ∙ given-labels pairs q parts.1)

-- a test of names passes on a set's labels if it passes on the pairs that make it
names_put : (p : List ℕ → Bool) (name value : List ℕ) (pairs : List Pair) → p name ≡ true → list_all (λ pair. p pair.0) pairs ≡ true → list_all (λ pair. p pair.0) (put name_cmp name value pairs) ≡ true
names_put p name value [] this h = and_from (p name) true this refl
names_put p name value (e ∷ es) this h =
    let parts = and_parts (p e.0) (list_all (λ pair. p pair.0) es) h in
    elim (name_cmp name e.0) as (λ o. list_all (λ pair. p pair.0) (by_order o ((name, value) ∷ e ∷ es) ((e.0, value) ∷ es) (e ∷ put name_cmp name value es)) ≡ true) [
      | Less ↦ and_from (p name) _ this h
      | Equal ↦ h
      | Greater ↦ and_from (p e.0) _ parts.0 (names_put p name value es this parts.1)
    ]

names_filter : (p q : List ℕ → Bool) (pairs : List Pair) → list_all (λ pair. p pair.0) pairs ≡ true → list_all (λ pair. p pair.0) (where_key name_cmp q pairs) ≡ true
names_filter p q [] h = refl
names_filter p q (e ∷ es) h =
    let parts = and_parts (p e.0) (list_all (λ pair. p pair.0) es) h in
    elim (q e.0) as (λ b. list_all (λ pair. p pair.0) (cond b (e ∷ where_key name_cmp q es) (where_key name_cmp q es)) ≡ true) [
      | true ↦ and_from (p e.0) _ parts.0 (names_filter p q es parts.1)
      | false ↦ names_filter p q es parts.1
    ]

names_override : (p : List ℕ → Bool) (name value : List ℕ) (pairs : List Pair) → p name ≡ true → list_all (λ pair. p pair.0) pairs ≡ true → list_all (λ pair. p pair.0) (override name value pairs) ≡ true
names_override p name value pairs this h =
    elim (is_empty value) as (λ b. list_all (λ pair. p pair.0) (cond b (where_key name_cmp (λ other. not (is_text name other)) pairs) (put name_cmp name value pairs)) ≡ true) [
      | true ↦ names_filter p (λ other. not (is_text name other)) pairs h
      | false ↦ names_put p name value pairs this h
    ]

pub names-label_set_of : (p : List ℕ → Bool) (pairs : List Pair) → are_named pairs ≡ true → list_all (λ pair. p pair.0) pairs ≡ true → list_all (λ pair. p pair.0) (labels_of (label_set_of pairs)) ≡ true
names-label_set_of p [] named h = ap (list_all (λ pair. p pair.0)) labels_of-no_labels
names-label_set_of p (e ∷ es) named h =
    let names = and_parts (is_name e.0) (are_named es) named in
    let parts = and_parts (p e.0) (list_all (λ pair. p pair.0) es) h in
    ap (list_all (λ pair. p pair.0)) (labels_of-with_label (label_set_of es) e.0 e.1 names.0)
    ∙ names_override p e.0 e.1 (labels_of (label_set_of es)) parts.0 (names-label_set_of p es names.1 parts.1)
