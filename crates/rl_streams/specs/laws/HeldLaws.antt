-- Lists and their sets: what a set has, that order does not matter, and that a list with no item twice is its set in another order.
use Rattle.std.proofs.Common.{◌≡◌, ℕ, suc, ◌+◌, ◌≤◌, Bool, true, false, cond, is_some, ◌||◌, ◌&&◌, Option, Some, None, List, [], ◌∷◌, ◌++◌, length, map, filter, refl, sym, ap, subst, ◌∙◌, true≢false, arith}
use Rattle.std.specs.List.{list_any, AllByRecursion, IsDistinct}
use Rattle.std.specs.List.Sorted.{IsPermutation, IsStrictlySortedBy}
use Rattle.std.specs.Ordering.{eq_by_cmp, is_eq}
use Rattle.std.specs.declared.cmp.Ordering.{Ordering}
use Rattle.std.specs.declared.cmp.Ordering.TheVariants.{Less, Equal, Greater}
use Rattle.std.specs.Cmp.{Equal-is, IsTotalOrder}
use Rattle.std.specs.FinMap.{IsAntisymmetric, entries, keys, len, FinMap, contains_key, get, insert, from_entries, from_sorted, entries_sorted, entries-from_sorted, get-entries, get-from_entries, get-from_sorted, get-retain_keys, retain_keys, entries-insert, len-insert, len-empty, same_map}
use Rattle.std.specs.FinMap.Entries.{find, find-where_key, is_sorted-where_key, put, by_order, where_key}
use Rattle.std.proofs.lemmas.List.Elements.{filter-append}
use Rattle.std.proofs.lemmas.List.Sorted.{IsPermutation-refl, IsPermutation-sym, IsPermutation-trans, IsPermutation-cons, IsPermutation-middle, list_any-IsPermutation}
use Rattle.std.proofs.lemmas.List.{map-append}
use Rattle.std.proofs.lemmas.Map.Keys.{IsDistinct-head, IsDistinct-tail}
use Rattle.std.proofs.lemmas.Map.Views.{any-filter_same}
use Rattle.rl_plain.specs.laws.TreeMaps.{entries-of_tree}
use Rattle.rl_streams.specs.HeldSet.{mark}

one_of : (a b : Bool) → cond a (Some (tt {0})) (cond b (Some (tt {0})) None) ≡ cond (a || b) (Some (tt {0})) None
one_of true b = refl
one_of false b = refl

is_some-one : (b : Bool) → is_some (cond b (Some (tt {0})) None) ≡ b
is_some-one true = refl
is_some-one false = refl

-- none of the items ties
pub none_ties : {K : Type 0} (p : K → Bool) (xs : List K) → AllByRecursion (λ y. p y ≡ false) xs → list_any p xs ≡ false
none_ties p [] h = refl
none_ties p (x ∷ xs) h = ap (λ b. b || list_any p xs) h.0 ∙ none_ties p xs h.1

-- an item stands somewhere in a list
record StandsIn {A : Type 0} (before : List A) (item : A) (after : List A) : Type 0 where
  front : List A
  back : List A
  old : before ≡ front ++ back
  new : after ≡ front ++ item ∷ back

-- an item more at the front, and somewhere in the other list, of which those that pass are kept
one_more_kept : {K : Type 0} (p : K → Bool) (x : K) (xs front back : List K) → IsPermutation (filter p xs) (filter p (front ++ back)) → IsPermutation (filter p (x ∷ xs)) (filter p (front ++ x ∷ back))
one_more_kept p x xs front back moved =
    subst (IsPermutation (filter p (x ∷ xs))) (sym (filter-append p front (x ∷ back))) (by (p x) (subst (IsPermutation (filter p xs)) (filter-append p front back) moved))
  where
    by : (b : Bool) → IsPermutation (filter p xs) (filter p front ++ filter p back) → IsPermutation (cond b (x ∷ filter p xs) (filter p xs)) (filter p front ++ cond b (x ∷ filter p back) (filter p back))
    by true h = IsPermutation-trans _ _ _ (IsPermutation-cons x _ _ h) (IsPermutation-sym _ _ (IsPermutation-middle (filter p front) x (filter p back)))
    by false h = h

module _ {K X : Type 0} (R : K → K → Ordering) (k : K) (v : X) where
  -- what is put at a new key stands between what was there
  put_new : (es : List (K × X)) → find R k es ≡ None → StandsIn es (k, v) (put R k v es)
  put_new [] none = record { front = []; back = []; old = refl; new = refl }
  put_new (e ∷ es) none = by (R k e.0) (put_new es) none
    where
      by : (r : Ordering) → (find R k es ≡ None → StandsIn es (k, v) (put R k v es)) → cond (is_eq r) (Some e.1) (find R k es) ≡ None → StandsIn (e ∷ es) (k, v) (by_order r ((k, v) ∷ e ∷ es) ((e.0, v) ∷ es) (e ∷ put R k v es))
      by Less _ none = record { front = []; back = e ∷ es; old = refl; new = refl }
      by Equal _ none = absurd (true≢false (ap is_some none))
      by Greater on_rest none =
          let others = on_rest none in
          record { front = e ∷ others.front; back = others.back; old = ap (λ l. e ∷ l) others.old; new = ap (λ l. e ∷ l) others.new }

module _ {K : Type 0} {R : K → K → Ordering} (o : IsTotalOrder R) where
  -- what a set of keys has at a key
  pub find_marked : (xs : List K) (q : K) → find R q (map mark xs) ≡ cond (list_any (eq_by_cmp R q) xs) (Some tt) None
  find_marked [] q = refl
  find_marked (x ∷ xs) q = ap (cond (eq_by_cmp R q x) (Some tt)) (find_marked xs q) ∙ one_of (eq_by_cmp R q x) (list_any (eq_by_cmp R q) xs)

  get_marked : (xs : List K) (q : K) → get (from_entries {R = R} (map mark xs)) q ≡ cond (list_any (eq_by_cmp R q) xs) (Some tt) None
  get_marked xs q = get-from_entries o (map mark xs) q ∙ find_marked xs q

  pub contains_key-of_list : (xs : List K) (q : K) → contains_key (from_entries {R = R} (map mark xs)) q ≡ list_any (eq_by_cmp R q) xs
  contains_key-of_list xs q = ap is_some (get_marked xs q) ∙ is_some-one (list_any (eq_by_cmp R q) xs)

  -- a list without an item twice is as long as its set
  pub len-of_distinct : (xs : List K) → IsDistinct (eq_by_cmp R) xs → len (from_entries {R = R} (map mark xs)) ≡ length xs
  len-of_distinct [] h = len-empty R (Unit {0})
  len-of_distinct (x ∷ xs) h =
      let others = from_entries {R = R} (map mark xs) in
      let is_new : contains_key others x ≡ false = contains_key-of_list xs x ∙ none_ties (eq_by_cmp R x) xs (IsDistinct-head (eq_by_cmp R) x xs h) in
      let many : len others ≡ length xs = len-of_distinct xs (IsDistinct-tail (eq_by_cmp R) x xs h) in
      len-insert o others x tt ∙ ap (λ b. cond b (len others) (len others + 1)) is_new ∙ omega (arith, many)

  -- and no set is longer than its list
  pub len-of_list : (xs : List K) → len (from_entries {R = R} (map mark xs)) ≤ length xs
  len-of_list [] = omega (arith, len-empty R (Unit {0}))
  len-of_list (x ∷ xs) =
      let others = from_entries {R = R} (map mark xs) in
      subst (λ n. n ≤ suc (length xs)) (sym (len-insert o others x tt)) (by (len others) (contains_key others x) (len-of_list xs))
    where
      by : (many : ℕ) (b : Bool) → many ≤ length xs → cond b many (many + 1) ≤ suc (length xs)
      by many true le = omega (arith, le)
      by many false le = omega (arith, le)

  -- with a new key, the keys that pass a test are that one, if it does, and those that did, in another order
  pub keys-inserted : (p : K → Bool) (m : FinMap R (Unit {0})) (x : K) → contains_key m x ≡ false → IsPermutation (filter p (x ∷ keys m)) (filter p (keys (insert m x tt)))
  keys-inserted p m x new =
      let there = put_new R x tt (entries m) (sym (get-entries m x) ∙ none_of (get m x) new) in
      let before = ap (map (λ (e : K × Unit {0}). e.0)) there.old ∙ map-append (λ e. e.0) there.front there.back in
      let after = ap (map (λ (e : K × Unit {0}). e.0)) (entries-insert o m x tt ∙ there.new) ∙ map-append (λ e. e.0) there.front ((x, tt) ∷ there.back) in
      subst (λ l. IsPermutation (filter p (x ∷ keys m)) (filter p l)) (sym after)
      (one_more_kept p x (keys m) (map (λ e. e.0) there.front) (map (λ e. e.0) there.back) (subst (λ l. IsPermutation (filter p (keys m)) (filter p l)) before (IsPermutation-refl (filter p (keys m)))))
    where
      none_of : (found : Option (Unit {0})) → is_some found ≡ false → found ≡ None
      none_of None _ = refl
      none_of (Some _) some = absurd (true≢false some)

  module _ (same : IsAntisymmetric R) where
    -- the order of the list does not matter
    pub set-permuted : (xs ys : List K) → IsPermutation xs ys → from_entries {R = R} (map mark ys) ≡ from_entries (map mark xs)
    set-permuted xs ys moved = same_map o same _ _ (λ q.
        get_marked ys q ∙ ap (λ b. cond b (Some tt) None) (sym (list_any-IsPermutation (eq_by_cmp R q) xs ys moved)) ∙ sym (get_marked xs q))

    -- the set of what passes a test
    pub set-filter : (p : K → Bool) (xs : List K) → from_entries {R = R} (map mark (filter p xs)) ≡ retain_keys (from_entries (map mark xs)) p
    set-filter p xs = same_map o same _ _ (λ q.
        get_marked (filter p xs) q
        ∙ ap (λ b. cond b (Some tt) None) (any-filter_same (eq_by_cmp R q) p (p q) (λ k tied. ap p (sym (same q k ((Equal-is (R q k)).0 tied)))) xs)
        ∙ both (p q) (list_any (eq_by_cmp R q) xs)
        ∙ sym (get-retain_keys (from_entries {R = R} (map mark xs)) p q (λ x tied. ap p (sym (same q x tied))) ∙ ap (λ found. cond (p q) found None) (get_marked xs q)))
      where
        both : (b c : Bool) → cond (b && c) (Some (tt {0})) None ≡ cond b (cond c (Some (tt {0})) None) None
        both true c = refl
        both false c = refl

    empty_keys : keys (from_entries {R = R} (map mark [])) ≡ []
    unfolding IsStrictlySortedBy
    empty_keys = ap (map (λ (e : K × Unit {0}). e.0)) (entries-of_tree {X = Unit {0}} o same [] tt)

    -- the keys of a map that are kept
    pub keys-kept : {X : Type 0} (m : FinMap R X) (p : K → Bool) → keys (retain_keys m p) ≡ filter p (keys m)
    keys-kept {X} m p =
        let es = where_key R p (entries m) in
        let sorted = is_sorted-where_key R p (entries m) (entries_sorted m) in
        let alike = λ (q x : K) (tied : R q x ≡ Equal). ap p (sym (same q x tied)) in
        let is : retain_keys m p ≡ from_sorted es = same_map o same _ _ (λ q.
        get-retain_keys m p q (alike q)
        ∙ ap (λ found. cond (p q) found None) (get-entries m q)
        ∙ sym (get-from_sorted R es q sorted ∙ find-where_key R p q (alike q) (entries m))) in
        ap keys is ∙ ap (map (λ (e : K × X). e.0)) (entries-from_sorted R es sorted) ∙ by (entries m)
      where
        by : (es : List (K × X)) → map (λ e. e.0) (filter (λ e. p e.0) es) ≡ filter p (map (λ e. e.0) es)
        by [] = refl
        by (e ∷ es) = elim (p e.0) as (λ b. map (λ e. e.0) (cond b (e ∷ filter (λ e. p e.0) es) (filter (λ e. p e.0) es)) ≡ cond b (e.0 ∷ filter p (map (λ e. e.0) es)) (filter p (map (λ e. e.0) es))) [
          | true ↦ ap (λ rest. e.0 ∷ rest) (by es)
          | false ↦ by es
        ]

    -- the keys of a set that pass a test are those items of its list, in another order
    pub keys-of_distinct : (p : K → Bool) (xs : List K) → IsDistinct (eq_by_cmp R) xs → IsPermutation (filter p xs) (filter p (keys (from_entries {R = R} (map mark xs))))
    keys-of_distinct p [] h = subst (λ l. IsPermutation [] (filter p l)) (sym empty_keys) (IsPermutation-refl [])
    keys-of_distinct p (x ∷ xs) h =
        let others = from_entries {R = R} (map mark xs) in
        let is_new = contains_key-of_list xs x ∙ none_ties (eq_by_cmp R x) xs (IsDistinct-head (eq_by_cmp R) x xs h) in
        IsPermutation-trans _ _ _ (one_more_kept p x xs [] (keys others) (keys-of_distinct p xs (IsDistinct-tail (eq_by_cmp R) x xs h))) (keys-inserted p others x is_new)
