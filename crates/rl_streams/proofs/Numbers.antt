-- The numbers of chunks: those that are given are above all that were, so none stands twice.
use Rattle.std.proofs.Common.{◌≡◌, ◌⊎◌, inl, inr, ℕ, zero, suc, ◌+◌, ◌-◌, ◌<◌, ◌≤◌, Contains, false, List, [], ◌∷◌, ◌++◌, ne_eqb, arith}
use Rattle.std.specs.Prelude.{nat_eq}
use Rattle.std.specs.List.{AllByRecursion, IsDistinct, range_with_len}
use Rattle.std.proofs.lemmas.List.Elements.{All-contains, All-from_recursion, Contains-append_cases}
use Rattle.std.proofs.lemmas.Map.Keys.{IsDistinct-cons}
use Rattle.rl_parts.specs.ChunksState.{ChunksView}
use Rattle.rl_parts.specs.StoreUse.{AreKept}
use Rattle.rl_parts.specs.laws.EachLaws.{all_both}
use Rattle.rl_streams.specs.StreamRows.{Row, numbers_of, numbers_in, AreGiven}
use Rattle.rl_streams.proofs.Kept.{numbers_below}

-- numbers in a row are above what is below them
above : (low a n : ℕ) → low < a → AllByRecursion (λ y. nat_eq low y ≡ false) (range_with_len a n)
above low a zero lt = tt
above low a (suc n) lt = (ne_eqb low a (λ e. absurd (omega (arith, e, lt))), above low (a + 1) n (omega (arith, lt)))

differ_below : (a : ℕ) (next : ℕ) (ys : List ℕ) → next ≤ a → AllByRecursion (λ y. y < next) ys → AllByRecursion (λ y. nat_eq a y ≡ false) ys
differ_below a next [] le h = tt
differ_below a next (y ∷ ys) le h = (ne_eqb a y (λ e. absurd (omega (arith, e, le, h.0))), differ_below a next ys le h.1)

-- numbers in a row from the next one on, and numbers below it
pub row_apart : (next a n : ℕ) (ys : List ℕ) → next ≤ a → AllByRecursion (λ y. y < next) ys → IsDistinct nat_eq ys → IsDistinct nat_eq (range_with_len a n ++ ys)
row_apart next a zero ys le below apart = apart
row_apart next a (suc n) ys le below apart =
    IsDistinct-cons nat_eq a (range_with_len (a + 1) n ++ ys) (all_both (λ y. nat_eq a y ≡ false) (range_with_len (a + 1) n) ys (above a (a + 1) n (omega arith)) (differ_below a next ys le below))
    (row_apart next (a + 1) n ys (omega (arith, le)) below apart)

-- all numbers are below the next one
pub all_below : (chunks : ChunksView) (rows : List Row) → AllByRecursion (λ row. AreKept chunks row.1) rows → AllByRecursion (λ number. number < chunks.next) (numbers_in rows)
all_below chunks [] h = tt
all_below chunks (row ∷ rows) h = all_both (λ number. number < chunks.next) (numbers_of row.1) (numbers_in rows) (numbers_below chunks row.1 h.0) (all_below chunks rows h.1)

-- so the next one is none of them
pub next_apart : (chunks : ChunksView) (rows : List Row) → AllByRecursion (λ row. AreKept chunks row.1) rows → Contains (numbers_in rows) chunks.next → ⊥
next_apart chunks rows kept there =
    let below : chunks.next < chunks.next = All-contains (λ number. number < chunks.next) (numbers_in rows) chunks.next (All-from_recursion (λ number. number < chunks.next) (numbers_in rows) (all_below chunks rows kept)) there in
    omega (arith, below)

row_within : (low high a n : ℕ) → low ≤ a → a + n ≤ high → AllByRecursion (λ y. (low ≤ y) × (y < high)) (range_with_len a n)
row_within low high a zero from to = tt
row_within low high a (suc n) from to = ((from, omega (arith, to)), row_within low high (a + 1) n (omega (arith, from)) (omega (arith, to)))

-- each of these and of the numbers in a row from the first up to the next
pub given_in : (old : List ℕ) (first next : ℕ) → first ≤ next → AreGiven old first next (range_with_len first (next - first) ++ old)
given_in old first next up number there = by (Contains-append_cases (range_with_len first (next - first)) old number there)
  where
    by : Contains (range_with_len first (next - first)) number ⊎ Contains old number → Contains old number ⊎ ((first ≤ number) × (number < next))
    by (inl new) = inr (All-contains (λ y. (first ≤ y) × (y < next)) (range_with_len first (next - first)) number (All-from_recursion (λ y. (first ≤ y) × (y < next)) (range_with_len first (next - first)) (row_within first next first (next - first) (omega arith) (omega (arith, up)))) new)
    by (inr was) = inl was

-- numbers that were given twice
pub given_then : (a : List ℕ) (first : ℕ) (b : List ℕ) (middle : ℕ) (c : List ℕ) (last : ℕ) → first ≤ middle → middle ≤ last → AreGiven a first middle b → AreGiven b middle last c → AreGiven a first last c
given_then a first b middle c last up more p q number there = by (q number there)
  where
    by : Contains b number ⊎ ((middle ≤ number) × (number < last)) → Contains a number ⊎ ((first ≤ number) × (number < last))
    by (inl was) = or (p number was)
      where
        or : Contains a number ⊎ ((first ≤ number) × (number < middle)) → Contains a number ⊎ ((first ≤ number) × (number < last))
        or (inl early) = inl early
        or (inr new) = inr (new.0, omega (arith, new.1, more))
    by (inr new) = inr (omega (arith, new.0, up), new.1)
