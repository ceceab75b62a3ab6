-- Steps over lists of pairs.
use Rattle.std.proofs.Common.{◌≡◌, ℕ, suc, ◌+◌, ◌<◌, ◌≤◌, Bool, true, false, cond, not, List, [], ◌∷◌, ◌++◌, Some, length, get_or, take, drop, map, refl, sym, ap, ◌∙◌, arith, append-nil, drop-cons}
use Rattle.std.specs.List.{flat_map, join_with_byte}
use Rattle.std.specs.Cmp.Lexicographic.{texts_ties}
use Rattle.std.specs.FinMap.Entries.{find, put, where_key, by_order}
use Rattle.std.specs.declared.cmp.Ordering.TheVariants.{Equal}
use Rattle.rl_labels.specs.laws.LabelLaws.{name_cmp-IsAntisymmetric}
use Rattle.std.proofs.lemmas.List.Elements.{filter_more}
use Rattle.rl_labels.specs.Name.{name_cmp, is_text}
use Rattle.rl_labels.specs.LabelSet.{Pair}
use Rattle.rl_labels.specs.LabelText.{label_text}
use Rattle.rl_labels.specs.Rising.{rises}

-- the item at an index, and what follows it
pub split_at_index : {X : Type 0} (xs : List X) (i : ℕ) (x : X) → i < length xs → x ≡ get_or xs i x → drop i xs ≡ x ∷ drop (i + 1) xs
split_at_index xs i x in' is = drop-cons xs i x in' ∙ ap (λ y. y ∷ drop (suc i) xs) (sym is) ∙ (let next : suc i ≡ i + 1 = omega arith in ap (λ n. x ∷ drop n xs) next)

-- a look-up at the front of what is left
pub find_front : (name : List ℕ) (pairs : List Pair) (i : ℕ) (pair : Pair) → i < length pairs → pair ≡ get_or pairs i pair → find name_cmp name (drop i pairs) ≡ cond (is_text name pair.0) (Some pair.1) (find name_cmp name (drop (i + 1) pairs))
find_front name pairs i pair in' is =
    ap (find name_cmp name) (split_at_index pairs i pair in' is)
    ∙ ap (λ b. cond b (Some pair.1) (find name_cmp name (drop (i + 1) pairs))) (sym (texts_ties name pair.0))

-- a list of at most one pair rises
pub rises_short : (pairs : List Pair) → length pairs ≤ 1 → rises pairs ≡ true
rises_short [] h = refl
rises_short (pair ∷ []) h = refl
rises_short (pair ∷ next ∷ pairs) h = absurd (omega arith)

-- the pairs with another name, and one more
pub where_key_front : (name : List ℕ) (pairs : List Pair) (i : ℕ) (pair : Pair) → i < length pairs → pair ≡ get_or pairs i pair → where_key name_cmp (λ other. not (is_text name other)) (take (i + 1) pairs) ≡ where_key name_cmp (λ other. not (is_text name other)) (take i pairs) ++ cond (is_text name pair.0) [] (pair ∷ [])
where_key_front name pairs i pair in' is =
    filter_more (λ e. not (is_text name e.0)) pairs i pair in'
    ∙ ap (λ e. where_key name_cmp (λ other. not (is_text name other)) (take i pairs) ++ cond (not (is_text name e.0)) (e ∷ []) []) (sym is)
    ∙ ap (λ t. where_key name_cmp (λ other. not (is_text name other)) (take i pairs) ++ t) (turned (is_text name pair.0) (pair ∷ []) [])
  where
    turned : {A : Type 0} (b : Bool) (x y : A) → cond (not b) x y ≡ cond b y x
    turned true x y = refl
    turned false x y = refl

-- the texts of labels, each but the first after a comma
pub labels_joined : (label : Pair) (labels : List Pair) → join_with_byte 44 (map label_text (label ∷ labels)) ≡ label_text label ++ flat_map (λ l. 44 ∷ label_text l) labels
labels_joined label [] = sym (append-nil (label_text label))
labels_joined label (next ∷ labels) = ap (λ t. label_text label ++ 44 ∷ t) (labels_joined next labels)

-- a label with the name gives way
pub put_equal : (name value : List ℕ) (pairs : List Pair) (i : ℕ) (pair : Pair) → i < length pairs → pair ≡ get_or pairs i pair → name_cmp name pair.0 ≡ Equal → put name_cmp name value (drop i pairs) ≡ (name, value) ∷ drop (i + 1) pairs
put_equal name value pairs i pair in' is tied =
    ap (put name_cmp name value) (split_at_index pairs i pair in' is)
    ∙ ap (λ o. by_order o ((name, value) ∷ pair ∷ drop (i + 1) pairs) ((pair.0, value) ∷ drop (i + 1) pairs) (pair ∷ put name_cmp name value (drop (i + 1) pairs))) tied
    ∙ ap (λ n. (n, value) ∷ drop (i + 1) pairs) (sym (name_cmp-IsAntisymmetric name pair.0 tied))

-- the texts of labels that are not empty
pub labels_from_front : (labels : List Pair) (first : Pair) → 0 < length labels → first ≡ get_or labels 0 first → join_with_byte 44 (map label_text labels) ≡ label_text first ++ flat_map (λ l. 44 ∷ label_text l) (drop 1 labels)
labels_from_front [] first full is = absurd (omega arith)
labels_from_front (label ∷ labels) first full is = labels_joined label labels ∙ ap (λ l. label_text l ++ flat_map (λ l. 44 ∷ label_text l) labels) (sym is)
