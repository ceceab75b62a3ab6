-- Equal texts are texts of equal label sets, so the order by texts is an order of label sets.
use Rattle.std.specs.Prelude.{◌≡◌, ℕ, ◌<◌, ◌==◌, true, false, cond, not, ◌&&◌, ◌||◌, List, [], ◌∷◌, ◌++◌, length, map, refl, Some}
use Rattle.std.specs.List.{list_all, join_with_byte}
use Rattle.std.specs.Int.{is_in_range}
use Rattle.std.specs.Cmp.{IsTotalOrder, IsEquivalence, IsPartialOrder, on_po}
use Rattle.std.specs.Cmp.Lexicographic.{nat_list_cmp_total, nat_list_eq_equiv, texts_po}
use Rattle.std.specs.FinMap.{IsAntisymmetric}
use Rattle.std.specs.FinMap.Entries.{is_sorted}
use Rattle.std.proofs.Common.{sym, ap, ◌∙◌, arith, append_assoc, length-append}
use Rattle.std.proofs.lemmas.Bool.{and_parts, true≢false, eqb-true}
use Rattle.std.proofs.lemmas.Cmp.{on_total, on_equiv}
use Rattle.rl_labels.specs.Name.{name_cmp, is_name, is_name_byte, is_name_start}
use Rattle.rl_labels.specs.LabelSet.{Pair, is_empty, is_label, LabelSet, labels_of, labels_are_proper, same_labels}
use Rattle.rl_labels.specs.laws.LabelLaws.{name_cmp-IsAntisymmetric, same_text, is_text_itself}
use Rattle.rl_plain.specs.laws.Bools.{true_from}
use Rattle.rl_labels.specs.LabelText.{value_text, label_text, labels_text, canonical_text, label_set_cmp, label_set_eq}

abbrev onto : ℕ → List ℕ × List ℕ → List ℕ × List ℕ
onto byte pair = (byte ∷ pair.0, pair.1)

-- from the front of an value_text value: the value, and what follows its closing quote
abbrev unescaped : List ℕ → List ℕ × List ℕ
unescaped [] = ([], [])
unescaped (byte ∷ []) = ([], [])
unescaped (byte ∷ next ∷ rest) = cond (byte == 34) ([], next ∷ rest) (cond (byte == 92) (onto (cond (next == 110) 10 next) (unescaped rest)) (onto byte (unescaped (next ∷ rest))))

-- a byte that stands for itself
unescaped_plain : (byte : ℕ) (text : List ℕ) → 0 < length text → (byte == 34) ≡ false → (byte == 92) ≡ false → unescaped (byte ∷ text) ≡ onto byte (unescaped text)
unescaped_plain byte [] full a b = absurd (omega arith)
unescaped_plain byte (next ∷ rest) full a b =
    ap (λ c. cond c ([], next ∷ rest) (cond (byte == 92) (onto (cond (next == 110) 10 next) (unescaped rest)) (onto byte (unescaped (next ∷ rest))))) a
    ∙ ap (λ c. cond c (onto (cond (next == 110) 10 next) (unescaped rest)) (onto byte (unescaped (next ∷ rest)))) b

-- an value_text value reads back, whatever follows
unescaped-value_text : (value rest : List ℕ) → unescaped (value_text value ++ 34 ∷ rest) ≡ (value, rest)
unescaped-value_text [] [] = refl
unescaped-value_text [] (x ∷ rest) = refl
unescaped-value_text (byte ∷ bytes) rest =
    elim (byte == 92) as (λ b. (byte == 92) ≡ b → unescaped (cond b (92 ∷ 92 ∷ []) (cond (byte == 34) (92 ∷ 34 ∷ []) (cond (byte == 10) (92 ∷ 110 ∷ []) (byte ∷ []))) ++ value_text bytes ++ 34 ∷ rest) ≡ (byte ∷ bytes, rest)) [
      | true ↦ λ is. ap (onto 92) (unescaped-value_text bytes rest) ∙ ap (λ n. (n ∷ bytes, rest)) (sym (eqb-true byte 92 is))
      | false ↦ λ not_backslash. elim (byte == 34) as (λ b. (byte == 34) ≡ b → unescaped (cond b (92 ∷ 34 ∷ []) (cond (byte == 10) (92 ∷ 110 ∷ []) (byte ∷ [])) ++ value_text bytes ++ 34 ∷ rest) ≡ (byte ∷ bytes, rest)) [
        | true ↦ λ is. ap (onto 34) (unescaped-value_text bytes rest) ∙ ap (λ n. (n ∷ bytes, rest)) (sym (eqb-true byte 34 is))
        | false ↦ λ not_quote. elim (byte == 10) as (λ b. (byte == 10) ≡ b → unescaped (cond b (92 ∷ 110 ∷ []) (byte ∷ []) ++ value_text bytes ++ 34 ∷ rest) ≡ (byte ∷ bytes, rest)) [
          | true ↦ λ is. ap (onto 10) (unescaped-value_text bytes rest) ∙ ap (λ n. (n ∷ bytes, rest)) (sym (eqb-true byte 10 is))
          | false ↦ λ _. unescaped_plain byte (value_text bytes ++ 34 ∷ rest) (omega (arith, length-append (value_text bytes) (34 ∷ rest))) not_quote not_backslash ∙ ap (onto byte) (unescaped-value_text bytes rest)
        ] refl
      ] refl
    ] refl

-- two value_text values with what follows their quotes
value_cancel : (v w r s : List ℕ) → value_text v ++ 34 ∷ r ≡ value_text w ++ 34 ∷ s → (v ≡ w) × (r ≡ s)
value_cancel v w r s e =
    let both : (v, r) ≡ (w, s) = sym (unescaped-value_text v r) ∙ ap unescaped e ∙ unescaped-value_text w s in
    (ap (λ p. p.0) both, ap (λ p. p.1) both)

abbrev head_of : List ℕ → ℕ
head_of [] = 0
head_of (x ∷ xs) = x

abbrev tail_of : List ℕ → List ℕ
tail_of [] = []
tail_of (x ∷ xs) = xs

-- the byte `=` ends a name
not_in_name : (byte : ℕ) → byte ≡ 61 → is_name_byte byte ≡ true → ⊥
not_in_name byte e named = true≢false (sym named ∙ ap is_name_byte e)

-- two names with what follows their `=`
name_cancel : (n m r s : List ℕ) → list_all is_name_byte n ≡ true → list_all is_name_byte m ≡ true → n ++ 61 ∷ r ≡ m ++ 61 ∷ s → (n ≡ m) × (r ≡ s)
name_cancel [] [] r s a b e = (refl, cc)
name_cancel [] (y ∷ m) r s a b e = absurd (not_in_name y (cc) (and_parts (is_name_byte y) (list_all is_name_byte m) b).0)
name_cancel (x ∷ n) [] r s a b e = absurd (not_in_name x (cc) (and_parts (is_name_byte x) (list_all is_name_byte n) a).0)
name_cancel (x ∷ n) (y ∷ m) r s a b e =
    let same : x ≡ y = cc in
    let rest : n ++ 61 ∷ r ≡ m ++ 61 ∷ s = cc in
    let both = name_cancel n m r s (and_parts (is_name_byte x) (list_all is_name_byte n) a).1 (and_parts (is_name_byte y) (list_all is_name_byte m) b).1 rest in
    let tails : n ≡ m = both.0 in
    (cc, both.1)

-- a name has bytes of names
name_bytes : (name : List ℕ) → is_name name ≡ true → list_all is_name_byte name ≡ true
name_bytes [] h = refl
name_bytes (x ∷ xs) h =
    let parts = and_parts (is_name_start x) (list_all is_name_byte xs) h in
    ap (λ b. (b || is_in_range 48 57 x) && list_all is_name_byte xs) parts.0 ∙ parts.1

-- what follows the first label: each of the others after a comma, and the closing brace
abbrev after_label : List Pair → List ℕ
after_label [] = 125 ∷ []
after_label (pair ∷ pairs) = 44 ∷ (label_text pair ++ after_label pairs)

joined : (pair : Pair) (pairs : List Pair) → join_with_byte 44 (map label_text (pair ∷ pairs)) ++ 125 ∷ [] ≡ label_text pair ++ after_label pairs
joined pair [] = refl
joined pair (next ∷ pairs) = append_assoc (label_text pair) (44 ∷ join_with_byte 44 (map label_text (next ∷ pairs))) (125 ∷ []) ∙ ap (λ t. label_text pair ++ 44 ∷ t) (joined next pairs)

opened : (pair : Pair) (rest : List ℕ) → label_text pair ++ rest ≡ pair.0 ++ 61 ∷ 34 ∷ (value_text pair.1 ++ 34 ∷ rest)
opened pair rest = simp append_assoc

-- two labels with what follows them
label_cancel : (p q : Pair) (r s : List ℕ) → is_label p ≡ true → is_label q ≡ true → label_text p ++ r ≡ label_text q ++ s → (p ≡ q) × (r ≡ s)
label_cancel p q r s a b e =
    let named : (t : Pair) → is_label t ≡ true → list_all is_name_byte t.0 ≡ true = λ t h. name_bytes t.0 (and_parts (is_name t.0) (not (is_empty t.1)) h).0 in
    let names = name_cancel p.0 q.0 _ _ (named p a) (named q b) (sym (opened p r) ∙ e ∙ opened q s) in
    let values = value_cancel p.1 q.1 r s (ap tail_of names.1) in
    ((λ i. (names.0 i, values.0 i)), values.1)

labels_cancel : (es fs : List Pair) → list_all is_label es ≡ true → list_all is_label fs ≡ true → after_label es ≡ after_label fs → es ≡ fs
labels_cancel [] [] a b e = refl
labels_cancel [] (f ∷ fs) a b e = absurd (omega (arith, ap head_of e))
labels_cancel (x ∷ es) [] a b e = absurd (omega (arith, ap head_of e))
labels_cancel (x ∷ es) (f ∷ fs) a b e =
    let as_one = and_parts (is_label x) (list_all is_label es) a in
    let bs_one = and_parts (is_label f) (list_all is_label fs) b in
    let both = label_cancel x f (after_label es) (after_label fs) as_one.0 bs_one.0 (ap tail_of e) in
    let rest = labels_cancel es fs as_one.1 bs_one.1 both.1 in
    λ i. both.0 i ∷ rest i

-- a name begins with a byte that no text of no labels has
full_text : (pair : Pair) (rest : List ℕ) → is_label pair ≡ true → 125 ∷ [] ≡ label_text pair ++ rest → ⊥
full_text pair rest h e = by_name pair.0 (and_parts (is_name pair.0) (not (is_empty pair.1)) h).0 (e ∙ opened pair rest)
  where
    by_name : (name : List ℕ) → is_name name ≡ true → 125 ∷ [] ≡ name ++ 61 ∷ 34 ∷ (value_text pair.1 ++ 34 ∷ rest) → ⊥
    by_name [] named e = true≢false (sym named)
    by_name (x ∷ xs) named e =
        let same : 125 ≡ x = ap head_of e in
        true≢false (sym (and_parts (is_name_start x) (list_all is_name_byte xs) named).0 ∙ ap is_name_start (sym same))

-- labels with one text are one list
same_pairs : (es fs : List Pair) → list_all is_label es ≡ true → list_all is_label fs ≡ true → labels_text es ≡ labels_text fs → es ≡ fs
same_pairs [] [] a b e = refl
same_pairs [] (f ∷ fs) a b e = absurd (full_text f (after_label fs) (and_parts (is_label f) (list_all is_label fs) b).0 (ap tail_of e ∙ joined f fs))
same_pairs (x ∷ es) [] a b e = absurd (full_text x (after_label es) (and_parts (is_label x) (list_all is_label es) a).0 (sym (ap tail_of e) ∙ joined x es))
same_pairs (x ∷ es) (f ∷ fs) a b e = labels_cancel (x ∷ es) (f ∷ fs) a b (ap (λ t. 44 ∷ t) (sym (joined x es) ∙ ap tail_of e ∙ joined f fs))

-- label sets with one canonical text are one
pub same_set_from_text : (s t : LabelSet) → canonical_text s ≡ canonical_text t → s ≡ t
unfolding canonical_text
same_set_from_text s t e =
    let labelled : (u : LabelSet) → list_all is_label (labels_of u) ≡ true = λ u. (and_parts (is_sorted name_cmp (labels_of u)) (list_all is_label (labels_of u)) (true_from _ (labels_are_proper u))).1 in
    same_labels s t (same_pairs (labels_of s) (labels_of t) (labelled s) (labelled t) e)

-- what a map with label sets as its keys needs: the order is total, and ties are equal sets
pub label_set_cmp_total : IsTotalOrder label_set_cmp
label_set_cmp_total = on_total canonical_text nat_list_cmp_total

pub label_set_cmp-IsAntisymmetric : IsAntisymmetric label_set_cmp
label_set_cmp-IsAntisymmetric s t tied = same_set_from_text s t (name_cmp-IsAntisymmetric (canonical_text s) (canonical_text t) tied)

-- the test of equality decides whether two sets are one
pub label_set_eq-true : (s t : LabelSet) → label_set_eq s t ≡ true → s ≡ t
label_set_eq-true s t e = same_set_from_text s t (same_text (canonical_text s) (canonical_text t) e)

pub label_set_eq_itself : (s : LabelSet) → label_set_eq s s ≡ true
label_set_eq_itself s = is_text_itself (canonical_text s)

pub label_set_eq_equiv : IsEquivalence label_set_eq
label_set_eq_equiv = on_equiv canonical_text nat_list_eq_equiv

pub label_set_po : IsPartialOrder label_set_eq (λ s t. Some (label_set_cmp s t))
label_set_po = on_po canonical_text texts_po
