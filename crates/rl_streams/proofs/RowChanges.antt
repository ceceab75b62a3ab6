-- What a change of one row of a map, and a row more at its end, make of all rows.
use Rattle.std.proofs.Common.{◌≡◌, ℕ, zero, suc, ◌+◌, ◌<◌, ◌≤◌, length, get_or, arith, zero-lt-suc, suc-le-suc, Bool, true, false, cond, Some, None, List, [], ◌∷◌, ◌++◌, map, slice_get, refl, sym, ap, subst, ◌∙◌, is_some, true≢false, append-nil, append_assoc}
use Rattle.std.specs.List.{AllByRecursion, AllWithin, IsDistinct, flat_map}
use Rattle.std.specs.List.Sorted.{IsPermutation}
use Rattle.std.specs.Map.{lookup, keys_of, values_of}
use Rattle.std.specs.BTreeMap.{is_at}
use Rattle.std.specs.Option.{unwrap_or}
use Rattle.std.specs.Ordering.{is_eq}
use Rattle.std.specs.declared.cmp.Ordering.{Ordering}
use Rattle.std.specs.Cmp.{IsTotalOrder, Equal-is, eq_by_cmp_equiv}
use Rattle.std.specs.FinMap.{IsAntisymmetric}
use Rattle.std.proofs.lemmas.List.{length-append}
use Rattle.std.proofs.lemmas.List.Concat.{flat_map-append}
use Rattle.std.proofs.lemmas.List.Sorted.{IsPermutation-trans, IsPermutation-append_left, IsPermutation-append_right, IsPermutation-append_comm}
use Rattle.std.proofs.lemmas.Map.Keys.{IsDistinct-head, IsDistinct-tail}
use Rattle.indexmap.specs.IndexMap.{set_value_at}

pub same_some : {A : Type 0} (x y : A) → Some x ≡ Some y → x ≡ y
same_some x y e = ap (λ o. unwrap_or o x) e

pub not_none : {A : Type 0} (x : A) → None ≡ Some x → ⊥
not_none x e = true≢false (sym (ap is_some e))

-- two lists in front of a third are exchanged
in_front : {A : Type 0} (xs ys zs : List A) → IsPermutation (xs ++ (ys ++ zs)) (ys ++ (xs ++ zs))
in_front xs ys zs = subst (λ l. IsPermutation l (ys ++ (xs ++ zs))) (append_assoc xs ys zs) (subst (IsPermutation ((xs ++ ys) ++ zs)) (append_assoc ys xs zs) (IsPermutation-append_left zs (xs ++ ys) (ys ++ xs) (IsPermutation-append_comm xs ys)))

module _ {K V : Type 0} where
  -- what is true of each row is true of one
  pub at_row : (P : K × V → Type 0) (rows : List (K × V)) (i : ℕ) (row : K × V) → AllByRecursion P rows → slice_get rows i ≡ Some row → P row
  at_row P [] i row h at = absurd (not_none row at)
  at_row P (e ∷ es) zero row h at = subst P (same_some e row at) h.0
  at_row P (e ∷ es) (suc i) row h at = at_row P es i row h.1 at

  -- and stays true where it is true of the new one
  pub all_set : (P : K × V → Type 0) (rows : List (K × V)) (i : ℕ) (k : K) (v w : V) → slice_get rows i ≡ Some (k, v) → AllByRecursion P rows → P (k, w) → AllByRecursion P (set_value_at rows i w)
  all_set P [] i k v w at h p = h
  all_set P (e ∷ es) zero k v w at h p = (subst (λ key. P (key, w)) (sym (ap (λ (row : K × V). row.0) (same_some e (k, v) at))) p, h.1)
  all_set P (e ∷ es) (suc i) k v w at h p = (h.0, all_set P es i k v w at h.1 p)

  -- what is true of the keys
  pub of_keys : (P : K → Type 0) (rows : List (K × V)) → AllByRecursion P (keys_of rows) → AllByRecursion (λ row. P row.0) rows
  of_keys P [] h = h
  of_keys P (e ∷ es) h = (h.0, of_keys P es h.1)

  pub to_keys : (P : K → Type 0) (rows : List (K × V)) → AllByRecursion (λ row. P row.0) rows → AllByRecursion P (keys_of rows)
  to_keys P [] h = h
  to_keys P (e ∷ es) h = (h.0, to_keys P es h.1)

  pub keys_push : (rows : List (K × V)) (row : K × V) → keys_of (rows ++ row ∷ []) ≡ keys_of rows ++ row.0 ∷ []
  keys_push [] row = refl
  keys_push (e ∷ es) row = ap (λ l. e.0 ∷ l) (keys_push es row)

  pub keys_set : (rows : List (K × V)) (i : ℕ) (w : V) → keys_of (set_value_at rows i w) ≡ keys_of rows
  keys_set [] i w = refl
  keys_set (e ∷ es) zero w = refl
  keys_set (e ∷ es) (suc i) w = ap (λ l. e.0 ∷ l) (keys_set es i w)

  module _ {A : Type 0} (f : V → List A) where
    abbrev all_of : List (K × V) → List A
    all_of rows = flat_map (λ row. f row.1) rows

    -- a row that gives what the old one gave
    pub set_same : (rows : List (K × V)) (i : ℕ) (k : K) (v w : V) → slice_get rows i ≡ Some (k, v) → f w ≡ f v → all_of (set_value_at rows i w) ≡ all_of rows
    set_same [] i k v w at same = refl
    set_same (e ∷ es) zero k v w at same = ap (λ l. l ++ all_of es) (same ∙ sym (ap (λ (row : K × V). f row.1) (same_some e (k, v) at)))
    set_same (e ∷ es) (suc i) k v w at same = ap (λ l. f e.1 ++ l) (set_same es i k v w at same)

    -- a row that gives more
    pub set_more : (more : List A) (rows : List (K × V)) (i : ℕ) (k : K) (v w : V) → slice_get rows i ≡ Some (k, v) → IsPermutation (more ++ f v) (f w) → IsPermutation (more ++ all_of rows) (all_of (set_value_at rows i w))
    set_more more [] i k v w at moved = absurd (not_none (k, v) at)
    set_more more (e ∷ es) zero k v w at moved =
        let here = subst (λ l. IsPermutation (more ++ l) (f w)) (sym (ap (λ (row : K × V). f row.1) (same_some e (k, v) at))) moved in
        subst (λ l. IsPermutation l (f w ++ all_of es)) (append_assoc more (f e.1) (all_of es)) (IsPermutation-append_left (all_of es) (more ++ f e.1) (f w) here)
    set_more more (e ∷ es) (suc i) k v w at moved =
        IsPermutation-trans _ _ _ (in_front more (f e.1) (all_of es)) (IsPermutation-append_right (f e.1) (more ++ all_of es) (all_of (set_value_at es i w)) (set_more more es i k v w at moved))

    -- how much they give in all
    pub set_long : (rows : List (K × V)) (i : ℕ) (k : K) (v w : V) → slice_get rows i ≡ Some (k, v) → length (all_of (set_value_at rows i w)) + length (f v) ≡ length (all_of rows) + length (f w)
    set_long [] i k v w at = absurd (not_none (k, v) at)
    set_long (e ∷ es) zero k v w at = omega (arith, ap (λ (row : K × V). length (f row.1)) (same_some e (k, v) at), length-append (f e.1) (all_of es), length-append (f w) (all_of es))
    set_long (e ∷ es) (suc i) k v w at = let others = set_long es i k v w at in omega (arith, others, length-append (f e.1) (all_of es), length-append (f e.1) (all_of (set_value_at es i w)))

    -- a row more
    pub push_more : (rows : List (K × V)) (row : K × V) → IsPermutation (f row.1 ++ all_of rows) (all_of (rows ++ row ∷ []))
    push_more rows row = subst (IsPermutation (f row.1 ++ all_of rows)) (sym (flat_map-append (λ (row : K × V). f row.1) rows (row ∷ []) ∙ ap (λ l. all_of rows ++ l) (append-nil (f row.1)))) (IsPermutation-append_comm (f row.1) (all_of rows))

  module _ {X : Type 0} (g : V → X) where
    abbrev each_of : List (K × V) → List (K × X)
    each_of rows = map (λ row. (row.0, g row.1)) rows

    pub set_each_same : (rows : List (K × V)) (i : ℕ) (k : K) (v w : V) → slice_get rows i ≡ Some (k, v) → g w ≡ g v → each_of (set_value_at rows i w) ≡ each_of rows
    set_each_same [] i k v w at same = refl
    set_each_same (e ∷ es) zero k v w at same = ap (λ x. (e.0, x) ∷ each_of es) (same ∙ sym (ap (λ (row : K × V). g row.1) (same_some e (k, v) at)))
    set_each_same (e ∷ es) (suc i) k v w at same = ap (λ l. (e.0, g e.1) ∷ l) (set_each_same es i k v w at same)

shadowed : {A : Type 0} (b c : Bool) (x y z : A) → c ≡ b → cond b x z ≡ cond c x (cond b y z)
shadowed true c x y z e = ap (λ d. cond d x y) (sym e)
shadowed false c x y z e = ap (λ d. cond d x z) (sym e)

swapped : {A : Type 0} (a b : Bool) (x y z : A) → (a ≡ true → b ≡ true → ⊥) → cond a x (cond b y z) ≡ cond b y (cond a x z)
swapped true true x y z apart = absurd (apart refl refl)
swapped true false x y z apart = refl
swapped false b x y z apart = refl

module _ {K : Type 0} {R : K → K → Ordering} (o : IsTotalOrder R) (same : IsAntisymmetric R) (eq : K → K → Bool) (itself : (k : K) → eq k k ≡ true) where
  equals : (x y : K) → is_eq (R x y) ≡ true → x ≡ y
  equals x y e = same x y ((Equal-is (R x y)).0 e)

  -- two keys that tie with one key do not differ
  one_key : (q x y : K) → eq x y ≡ false → is_eq (R q x) ≡ true → is_eq (R y q) ≡ true → ⊥
  one_key q x y differ a b = true≢false (sym (itself x) ∙ ap (eq x) (sym (equals q x a) ∙ sym (equals y q b)) ∙ differ)

  module _ {V X : Type 0} (g : V → X) where
    -- what is found at a key, where one value was set
    pub lookup_set : (rows : List (K × V)) (i : ℕ) (k : K) (v w : V) (q : K) → IsDistinct eq (keys_of rows) → slice_get rows i ≡ Some (k, v)
        → lookup (is_at (R q)) (each_of g (set_value_at rows i w)) ≡ cond (is_at (R k) q) (Some (g w)) (lookup (is_at (R q)) (each_of g rows))
    lookup_set [] i k v w q apart at = absurd (not_none (k, v) at)
    lookup_set (e ∷ es) zero k v w q apart at =
        let key : e.0 ≡ k = ap (λ (row : K × V). row.0) (same_some e (k, v) at) in
        shadowed (is_at (R q) e.0) (is_at (R k) q) _ _ _ (ap (λ x. is_eq (R x q)) (sym key) ∙ (eq_by_cmp_equiv o).symm e.0 q)
    lookup_set (e ∷ es) (suc i) k v w q apart at =
        ap (cond (is_at (R q) e.0) (Some (g e.1))) (lookup_set es i k v w q (IsDistinct-tail eq e.0 (keys_of es) apart) at)
        ∙ swapped (is_at (R q) e.0) (is_at (R k) q) _ _ _ (λ a b. one_key q e.0 k (at_row (λ row. eq e.0 row.0 ≡ false) es i (k, v) (of_keys (λ y. eq e.0 y ≡ false) es (IsDistinct-head eq e.0 (keys_of es) apart)) at) a b)

    -- and where a row with a new key came after all
    pub lookup_push : (rows : List (K × V)) (k : K) (w : V) (q : K) → AllByRecursion (λ row. eq k row.0 ≡ false) rows
        → lookup (is_at (R q)) (each_of g (rows ++ (k, w) ∷ [])) ≡ cond (is_at (R k) q) (Some (g w)) (lookup (is_at (R q)) (each_of g rows))
    lookup_push [] k w q new = ap (λ b. cond b (Some (g w)) None) ((eq_by_cmp_equiv o).symm q k)
    lookup_push (e ∷ es) k w q new =
        ap (cond (is_at (R q) e.0) (Some (g e.1))) (lookup_push es k w q new.1)
        ∙ swapped (is_at (R q) e.0) (is_at (R k) q) _ _ _ (λ a b. one_key q k e.0 new.0 ((eq_by_cmp_equiv o).symm q k ∙ b) ((eq_by_cmp_equiv o).symm e.0 q ∙ a))

module _ {K V : Type 0} where
  -- a value at an index has a key there
  pub with_key : (rows : List (K × V)) (i : ℕ) (v : V) → slice_get (values_of rows) i ≡ Some v → (k : K) × (slice_get rows i ≡ Some (k, v))
  with_key [] i v at = absurd (not_none v at)
  with_key (e ∷ es) zero v at = (e.0, ap (λ value. Some (e.0, value)) (same_some e.1 v at))
  with_key (e ∷ es) (suc i) v at = with_key es i v at

  pub value_at : (rows : List (K × V)) (i : ℕ) (k : K) (v : V) → slice_get rows i ≡ Some (k, v) → slice_get (values_of rows) i ≡ Some v
  value_at [] i k v at = absurd (not_none (k, v) at)
  value_at (e ∷ es) zero k v at = ap (λ (row : K × V). Some row.1) (same_some e (k, v) at)
  value_at (e ∷ es) (suc i) k v at = value_at es i k v at

  pub within : (rows : List (K × V)) (i : ℕ) (row : K × V) → slice_get rows i ≡ Some row → i < length rows
  within [] i row at = absurd (not_none row at)
  within (e ∷ es) zero row at = zero-lt-suc (length es)
  within (e ∷ es) (suc i) row at = suc-le-suc (within es i row at)

  pub set_itself : (rows : List (K × V)) (i : ℕ) (v : V) → slice_get (values_of rows) i ≡ Some v → set_value_at rows i v ≡ rows
  set_itself [] i v at = refl
  set_itself (e ∷ es) zero v at = ap (λ value. (e.0, value) ∷ es) (sym (same_some e.1 v at))
  set_itself (e ∷ es) (suc i) v at = ap (λ l. e ∷ l) (set_itself es i v at)

  pub length_set : (rows : List (K × V)) (i : ℕ) (w : V) → length (set_value_at rows i w) ≡ length rows
  length_set [] i w = refl
  length_set (e ∷ es) zero w = refl
  length_set (e ∷ es) (suc i) w = ap suc (length_set es i w)

  -- the rows up to one, once it was set
  pub set_up_to : (P : K × V → Type 0) (rows : List (K × V)) (i : ℕ) (k : K) (v w : V) → slice_get rows i ≡ Some (k, v) → AllWithin P rows 0 i → P (k, w) → AllWithin P (set_value_at rows i w) 0 (i + 1)
  set_up_to P [] i k v w at done here = absurd (not_none (k, v) at)
  set_up_to P (e ∷ es) zero k v w at done here = first
    where
      first : (n : ℕ) (d : K × V) → 0 ≤ n → n < zero + 1 → P (get_or ((e.0, w) ∷ es) n d)
      first zero d low high = subst (λ key. P (key, w)) (sym (ap (λ (row : K × V). row.0) (same_some e (k, v) at))) here
      first (suc n) d low high = absurd (omega (arith, high))
  set_up_to P (e ∷ es) (suc i) k v w at done here = by (set_up_to P es i k v w at (λ n d low high. done (suc n) d (omega arith) (omega (arith, high))) here)
    where
      by : AllWithin P (set_value_at es i w) 0 (i + 1) → (n : ℕ) (d : K × V) → 0 ≤ n → n < suc i + 1 → P (get_or (e ∷ set_value_at es i w) n d)
      by others zero d low high = done zero d (omega arith) (omega arith)
      by others (suc n) d low high = others n d (omega arith) (omega (arith, high))

  -- nothing is left where each row gives nothing
  pub none_left : {A : Type 0} (f : V → List A) (rows : List (K × V)) → AllWithin (λ row. f row.1 ≡ []) rows 0 (length rows) → flat_map (λ (row : K × V). f row.1) rows ≡ []
  none_left f [] done = refl
  none_left f (e ∷ es) done = ap (λ l. l ++ flat_map (λ (row : K × V). f row.1) es) (done zero e (omega arith) (omega arith)) ∙ none_left f es (λ n d low high. done (suc n) d (omega arith) (omega (arith, high)))

  pub set_by_row_same : {A : Type 0} (f : V → A) (rows : List (K × V)) (i : ℕ) (v w : V) → slice_get (values_of rows) i ≡ Some v → f w ≡ f v → map (λ (row : K × V). f row.1) (set_value_at rows i w) ≡ map (λ (row : K × V). f row.1) rows
  set_by_row_same f [] i v w at same = refl
  set_by_row_same f (e ∷ es) zero v w at same = ap (λ x. x ∷ map (λ (row : K × V). f row.1) es) (same ∙ sym (ap f (same_some e.1 v at)))
  set_by_row_same f (e ∷ es) (suc i) v w at same = ap (λ l. f e.1 ∷ l) (set_by_row_same f es i v w at same)
