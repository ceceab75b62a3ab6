-- Labels by rising name, cut at an index.
use Rattle.std.proofs.Common.{◌≡◌, ℕ, ◌<◌, ◌==◌, true, false, cond, List, [], ◌∷◌, length, get_or, take, drop, drop-cons, zero, suc, Some, refl, sym, ap, subst, ◌∙◌, arith}
use Rattle.std.specs.Ordering.{is_eq, is_lt}
use Rattle.std.specs.declared.cmp.Ordering.TheVariants.{Less, Equal}
use Rattle.std.specs.FinMap.Entries.{find, put, below_all, is_sorted}
use Rattle.std.proofs.lemmas.Bool.{and_parts, and_from, true≢false}
use Rattle.rl_labels.specs.Name.{name_cmp}
use Rattle.rl_labels.specs.LabelSet.{Pair}
use Rattle.rl_labels.specs.laws.LabelLaws.{name_cmp-IsAntisymmetric}
use Rattle.rl_labels.proofs.Building.{less_turned, below_each, find_below, put_below}
use Rattle.rl_labels.proofs.FromPairs.{below_more_names}

-- labels that are not empty
pub some_left : (es : List Pair) → (length es == 0) ≡ false → 0 < length es
some_left [] h = absurd (true≢false h)
some_left (e ∷ es) h = omega arith

below_front : (name : List ℕ) (n : ℕ) (es : List Pair) → below_all name_cmp name es ≡ true → below_all name_cmp name (take n es) ≡ true
below_front name zero es h = refl
below_front name (suc n) [] h = refl
below_front name (suc n) (e ∷ es) h =
    let parts = and_parts (is_lt (name_cmp name e.0)) (below_all name_cmp name es) h in
    and_from (is_lt (name_cmp name e.0)) _ parts.0 (below_front name n es parts.1)

-- those in front are in order
pub sorted_front : (n : ℕ) (es : List Pair) → is_sorted name_cmp es ≡ true → is_sorted name_cmp (take n es) ≡ true
sorted_front zero es h = refl
sorted_front (suc n) [] h = refl
sorted_front (suc n) (e ∷ es) h =
    let parts = and_parts (below_all name_cmp e.0 es) (is_sorted name_cmp es) h in
    and_from (below_all name_cmp e.0 (take n es)) _ (below_front e.0 n es parts.0) (sorted_front n es parts.1)

-- and so are the rest
pub sorted_after : (n : ℕ) (es : List Pair) → is_sorted name_cmp es ≡ true → is_sorted name_cmp (drop n es) ≡ true
sorted_after zero es h = h
sorted_after (suc n) [] h = refl
sorted_after (suc n) (e ∷ es) h = sorted_after n es (and_parts (below_all name_cmp e.0 es) (is_sorted name_cmp es) h).1

-- labels from one on that is above the name are none of it
pub find_before : (name : List ℕ) (es : List Pair) (i : ℕ) (pair : Pair) → is_sorted name_cmp es ≡ true → i < length es → pair ≡ get_or es i pair → name_cmp name pair.0 ≡ Less → find name_cmp name es ≡ find name_cmp name (take i es)
find_before name [] i pair sorted in' is below = absurd (omega arith)
find_before name (e ∷ es) zero pair sorted in' is below =
    let first : is_lt (name_cmp name e.0) ≡ true = ap is_lt (ap (λ p. name_cmp name p.0) (sym is) ∙ below) in
    let others = (and_parts (below_all name_cmp e.0 es) (is_sorted name_cmp es) sorted).0 in
    find_below name (e ∷ es) (and_from (is_lt (name_cmp name e.0)) _ first (below_more_names name e.0 es first others))
find_before name (e ∷ es) (suc i) pair sorted in' is below =
    ap (λ t. cond (is_eq (name_cmp name e.0)) (Some e.1) t) (find_before name es i pair (and_parts (below_all name_cmp e.0 es) (is_sorted name_cmp es) sorted).1 (omega arith) is below)

-- a label with the name is the one that is found
pub find_at : (name : List ℕ) (es : List Pair) (i : ℕ) (pair : Pair) → is_sorted name_cmp es ≡ true → i < length es → pair ≡ get_or es i pair → name_cmp name pair.0 ≡ Equal → find name_cmp name es ≡ Some pair.1
find_at name [] i pair sorted in' is tied = absurd (omega arith)
find_at name (e ∷ es) zero pair sorted in' is tied =
    ap (λ o. cond (is_eq o) (Some e.1) (find name_cmp name es)) (ap (λ p. name_cmp name p.0) (sym is) ∙ tied) ∙ ap (λ p. Some p.1) (sym is)
find_at name (e ∷ es) (suc i) pair sorted in' is tied =
    let parts = and_parts (below_all name_cmp e.0 es) (is_sorted name_cmp es) sorted in
    let below : name_cmp e.0 name ≡ Less = ap (name_cmp e.0) (name_cmp-IsAntisymmetric name pair.0 tied) ∙ below_each e.0 es i pair parts.0 (omega arith) is in
    ap (λ o. cond (is_eq o) (Some e.1) (find name_cmp name es)) (less_turned e.0 name below) ∙ find_at name es i pair parts.1 (omega arith) is tied

-- a label that is put in front of those after it
pub put_in_front : (es : List Pair) (i : ℕ) (pair : Pair) → is_sorted name_cmp es ≡ true → i < length es → pair ≡ get_or es i pair → put name_cmp pair.0 pair.1 (drop (suc i) es) ≡ drop i es
put_in_front es i pair sorted in' is =
    let split : drop i es ≡ pair ∷ drop (suc i) es = drop-cons es i pair in' ∙ ap (λ p. p ∷ drop (suc i) es) (sym is) in
    let left : is_sorted name_cmp (pair ∷ drop (suc i) es) ≡ true = subst (λ t. is_sorted name_cmp t ≡ true) split (sorted_after i es sorted) in
    put_below pair.0 pair.1 (drop (suc i) es) (and_parts (below_all name_cmp pair.0 (drop (suc i) es)) (is_sorted name_cmp (drop (suc i) es)) left).0
    ∙ sym split
