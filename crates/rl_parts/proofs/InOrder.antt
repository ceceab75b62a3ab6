-- Keys in order: where a search ends, and what an insert there makes.
use Rattle.std.proofs.Common.{◌≡◌, ℕ, ◌+◌, ◌-◌, ◌<◌, ◌≤◌, Some, Result, Ok, Err, List, [], length, get_or, slice_get, sym, ap, subst, ◌∙◌, inl, inr, ◌⊎◌, arith}
use Rattle.std.specs.Prelude.{IfOk, IfErr}
use Rattle.std.specs.List.{insert as List_insert, AllWithin, Contains}
use Rattle.std.specs.List.Sorted.{IsStrictlySortedBy, IsNonDecreasingBy, IsSearchInRange, IsBinarySearchResult}
use Rattle.std.specs.Ordering.{is_lt, ordering_index, ordering_reverse}
use Rattle.std.specs.declared.cmp.Ordering.{Ordering}
use Rattle.std.specs.declared.cmp.Ordering.TheVariants.{Less, Equal, Greater}
use Rattle.std.specs.Cmp.{IsTotalOrder}
use Rattle.std.specs.FinMap.{IsAntisymmetric}
use Rattle.std.proofs.lemmas.Bool.{cases_lt, cases_eq}
use Rattle.std.proofs.lemmas.Option.{get_or_from_slice_get}
use Rattle.std.proofs.lemmas.List.Edits.{length-insert, get_or-insert_below, get_or-insert_at, get_or-insert_above}
use Rattle.std.proofs.lemmas.List.Sorted.{searchable_from_sorted}
use Rattle.std.proofs.lemmas.Map.Keys.{Less-from_sorted, sorted_from_all_adjacent}

module _ {K : Type 0} {R : K → K → Ordering} (o : IsTotalOrder R) where
  pub nothing_in_order : IsStrictlySortedBy R []
  unfolding IsStrictlySortedBy
  nothing_in_order = tt

  -- the other way round
  more : (x y : K) → R x y ≡ Greater → R y x ≡ Less
  more x y h = o.antisymm y x ∙ ap ordering_reverse h

  less_back : (x y : K) → R x y ≡ Less → R y x ≡ Greater
  less_back x y h = o.antisymm y x ∙ ap ordering_reverse h

  -- comparisons with a key rise along keys in order, as a search asks
  pub rises : (xs : List K) (q : K) → IsStrictlySortedBy R xs → IsNonDecreasingBy (λ y. ordering_index (R y q)) xs
  rises xs q h = searchable_from_sorted o (λ x. x) xs q (λ k d low high. ap is_lt (less_back _ _ (Less-from_sorted R xs k (k + 1) d h (omega arith) high)))

  -- a key that a search found is there
  pub found : IsAntisymmetric R → (xs : List K) (q : K) (i : ℕ) → i < length xs → R (get_or xs i q) q ≡ Equal → Contains xs q
  found same xs q i within tied = (i, within, same (get_or xs i q) q tied)

  -- keys in order are less than what is greater than the last of them
  pub all_less : (xs : List K) (last q : K) → IsStrictlySortedBy R xs → slice_get xs (length xs - 1) ≡ Some last → R last q ≡ Less → AllWithin (λ y. R y q ≡ Less) xs 0 (length xs)
  all_less xs last q h is less = λ k d low high. at k d high (cases_lt (k + 1) (length xs))
    where
      here : (d : K) → get_or xs (length xs - 1) d ≡ last
      here d = get_or_from_slice_get xs (length xs - 1) last d is

      at : (k : ℕ) (d : K) → k < length xs → (k + 1 < length xs) ⊎ (length xs ≤ k + 1) → R (get_or xs k d) q ≡ Less
      at k d high (inl lower) = o.trans (get_or xs k d) last q (subst (λ y. R (get_or xs k d) y ≡ Less) (here d) (Less-from_sorted R xs k (length xs - 1) d h (omega arith) (omega arith))) less
      at k d high (inr le) = ap (λ i. R (get_or xs i d) q) (end k high le) ∙ ap (λ y. R y q) (here d) ∙ less
        where
          end : (k : ℕ) → k < length xs → length xs ≤ k + 1 → k ≡ length xs - 1
          end k high le = omega arith

  -- it goes between them, and the keys stay in order
  pub insert_in_order : (xs : List K) (q : K) (i : ℕ) → IsStrictlySortedBy R xs → i ≤ length xs → AllWithin (λ y. R y q ≡ Less) xs 0 i → AllWithin (λ y. R y q ≡ Greater) xs i (length xs) → IsStrictlySortedBy R (List_insert xs i q)
  insert_in_order xs q i h within before after = sorted_from_all_adjacent o (List_insert xs i q) q next
    where
      below : (k : ℕ) → k < i → get_or (List_insert xs i q) k q ≡ get_or xs k q
      below k lt = get_or-insert_below xs i q q k lt within

      here : get_or (List_insert xs i q) i q ≡ q
      here = get_or-insert_at xs i q q within

      above : (k : ℕ) → i ≤ k → k < length xs → get_or (List_insert xs i q) (k + 1) q ≡ get_or xs k q
      above k le lt = get_or-insert_above xs i q q k le within

      step : (k : ℕ) → k + 1 < length (List_insert xs i q) → (k + 1 < i) ⊎ ((k + 1 ≡ i) ⊎ ((k ≡ i) ⊎ (i < k))) → R (get_or (List_insert xs i q) k q) (get_or (List_insert xs i q) (k + 1) q) ≡ Less
      step k high (inl lower) = (λ j. R (below k (omega arith) j) (below (k + 1) lower j)) ∙ Less-from_sorted R xs k (k + 1) q h (omega arith) (omega arith)
      step k high (inr (inl last)) = (λ j. R (below k (omega arith) j) (get_or (List_insert xs i q) (last j) q)) ∙ ap (R (get_or xs k q)) here ∙ before k q (omega arith) (omega arith)
      step k high (inr (inr (inl first))) = (λ j. R (get_or (List_insert xs i q) (first j) q) (above k (omega arith) (omega (arith, length-insert xs i q within)) j)) ∙ ap (λ x. R x (get_or xs k q)) here ∙ more (get_or xs k q) q (after k q (omega arith) (omega (arith, length-insert xs i q within)))
      step k high (inr (inr (inr higher))) = (λ j. R (get_or (List_insert xs i q) (sym (back k higher) j) q) (above k (omega arith) (omega (arith, length-insert xs i q within)) j)) ∙ ap (λ x. R x (get_or xs k q)) (above (k - 1) (omega arith) (omega (arith, length-insert xs i q within))) ∙ Less-from_sorted R xs (k - 1) k q h (omega arith) (omega (arith, length-insert xs i q within))
        where
          back : (k : ℕ) → i < k → k - 1 + 1 ≡ k
          back k lt = omega arith

      positions : (k : ℕ) → (k + 1 < i) ⊎ ((k + 1 ≡ i) ⊎ ((k ≡ i) ⊎ (i < k)))
      positions k = elim (cases_lt (k + 1) i) [
        | inl lower ↦ inl lower
        | inr le ↦ elim (cases_eq (k + 1) i) [
          | inl last ↦ inr (inl last)
          | inr other ↦ elim (cases_eq k i) [
            | inl first ↦ inr (inr (inl first))
            | inr apart ↦ inr (inr (inr (grind (arith, le, other, apart))))
          ]
        ]
      ]

      next : (k : ℕ) → k + 1 < length (List_insert xs i q) → R (get_or (List_insert xs i q) k q) (get_or (List_insert xs i q) (k + 1) q) ≡ Less
      next k high = step k high (positions k)

  -- what a search by halves answers
  pub stands : IsAntisymmetric R → (xs : List K) (q : K) (r : Result ℕ ℕ) → IsSearchInRange r (length xs) → IsBinarySearchResult (λ y. R y q) xs r → IfOk r (λ _. Contains xs q)
  stands same xs q (Ok i) bound position = found same xs q i bound (position q)
  stands same xs q (Err i) bound position = tt

  pub parts : (xs : List K) (q : K) (r : Result ℕ ℕ) → IsStrictlySortedBy R xs → IsSearchInRange r (length xs) → IsBinarySearchResult (λ y. R y q) xs r
      → IfErr r (λ i. (i ≤ length xs) × (AllWithin (λ y. R y q ≡ Less) xs 0 i × AllWithin (λ y. R y q ≡ Greater) xs i (length xs)))
  parts xs q (Ok i) h bound position = tt
  parts xs q (Err i) h bound position = (bound, position (rises xs q h))
