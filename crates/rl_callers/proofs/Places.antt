-- Elements of lists at their places.
use Rattle.std.proofs.Common.{◌≡◌, ◌≢◌, ℕ, zero, suc, ◌<◌, List, [], ◌∷◌, length, drop, set, slice_get, Some, refl, ap, arith}

-- the first of what is left of a list
pub drop_first : {A : Type 0} (n : ℕ) (xs : List A) (x : A) (rest : List A) → drop n xs ≡ x ∷ rest → (slice_get xs n ≡ Some x) × (drop (suc n) xs ≡ rest)
drop_first zero [] x rest is = let never : ⊥ = cc in absurd never
drop_first zero (y ∷ ys) x rest is =
    let first : y ≡ x = cc in
    let following : ys ≡ rest = cc in
    (ap Some first, following)
drop_first (suc n) [] x rest is = let never : ⊥ = cc in absurd never
drop_first (suc n) (y ∷ ys) x rest is = drop_first n ys x rest is

-- what was put there
pub slice_get-set_same : {A : Type 0} (xs : List A) (i : ℕ) (y : A) → i < length xs → slice_get (set xs i y) i ≡ Some y
slice_get-set_same [] i y within = absurd (omega (arith, within))
slice_get-set_same (x ∷ xs) zero y within = refl
slice_get-set_same (x ∷ xs) (suc i) y within = slice_get-set_same xs i y (omega (arith, within))

-- elsewhere nothing changes
pub slice_get-set_other : {A : Type 0} (xs : List A) (i j : ℕ) (y : A) → j ≢ i → slice_get (set xs i y) j ≡ slice_get xs j
slice_get-set_other [] i j y other = refl
slice_get-set_other (x ∷ xs) zero zero y other = absurd (other refl)
slice_get-set_other (x ∷ xs) zero (suc j) y other = refl
slice_get-set_other (x ∷ xs) (suc i) zero y other = refl
slice_get-set_other (x ∷ xs) (suc i) (suc j) y other = slice_get-set_other xs i j y (λ same. other (ap suc same))

-- putting there what is there
pub set_there : {A : Type 0} (xs : List A) (i : ℕ) (x : A) → slice_get xs i ≡ Some x → set xs i x ≡ xs
set_there [] i x there = refl
set_there (y ∷ ys) zero x there = let same : x ≡ y = cc in ap (λ z. z ∷ ys) same
set_there (y ∷ ys) (suc i) x there = ap (λ zs. y ∷ zs) (set_there ys i x there)

-- there is an element at each place within
pub some_there : {A : Type 0} (xs : List A) (i : ℕ) → i < length xs → (x : A) × (slice_get xs i ≡ Some x)
some_there [] i within = absurd (omega (arith, within))
some_there (x ∷ xs) zero within = (x, refl)
some_there (x ∷ xs) (suc i) within = some_there xs i (omega (arith, within))
