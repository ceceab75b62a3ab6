-- Durations byte by byte, where no number is above the cap.
use Rattle.std.proofs.Common.{◌≡◌, inl, inr, ℕ, zero, suc, ◌+◌, ◌-◌, ◌*◌, ◌<◌, ◌≤◌, nat_lt, Bool, true, false, cond, List, [], ◌∷◌, Option, Some, None, IfSome, refl, sym, ap, ◌∙◌, arith}
use Rattle.std.specs.Option.{option_map, option_and_then}
use Rattle.std.specs.Char.{is_ascii_digit}
use Rattle.std.proofs.Math.Nat.{mul-le-mul_left}
use Rattle.std.proofs.lemmas.Bool.{cases_lt, cond-true, cond-false, lt-ltb}
use Rattle.rl_query.specs.Durations.{digit_after, part_of, duration_from, duration_of}
use Rattle.rl_query.specs.Limits.{capped, longest_range}
use Rattle.rl_query.specs.Tables.{unit_of}

-- what is left adds to the seconds so far
pub record Left (bytes rest : List ℕ) (seconds rank : ℕ) (digits : Option ℕ) : Type 0 where
  pub read : option_map (λ others. capped (seconds + others)) (duration_from rank digits rest) ≡ option_map capped (duration_of bytes)
  pub seconds_fit : seconds ≤ longest_range + 1
  pub digits_fit : IfSome digits (λ n. n ≤ longest_range + 1)

capped_product : (seconds n m unit others : ℕ) → capped n ≡ capped m → capped (seconds + (n * unit + others)) ≡ capped (seconds + (m * unit + others))
capped_product seconds n m zero others same = omega arith
capped_product seconds n m (suc u) others same =
    let left : n * 1 ≤ n * suc u = mul-le-mul_left n (omega arith) in
    let right : m * 1 ≤ m * suc u = mul-le-mul_left m (omega arith) in
    elim (cases_lt n (longest_range + 1)) [
      | inl small ↦ let equal : n ≡ m = omega (arith, same, small) in ap (λ k. capped (seconds + (k * suc u + others))) equal
      | inr great ↦ omega (arith, same, great, left, right)
    ]

-- a number above the cap counts as the cap
same_capped : (seconds rank n m : ℕ) (rest : List ℕ) → capped n ≡ capped m → option_map (λ others. capped (seconds + others)) (duration_from rank (Some n) rest) ≡ option_map (λ others. capped (seconds + others)) (duration_from rank (Some m) rest)
same_capped seconds rank n m [] same = refl
same_capped seconds rank n m (b ∷ rest) same =
    elim (is_ascii_digit b) as (λ t. option_map (λ others. capped (seconds + others)) (cond t (duration_from rank (Some (10 * n + (b - 48))) rest) (parts n (unit_of b))) ≡ option_map (λ others. capped (seconds + others)) (cond t (duration_from rank (Some (10 * m + (b - 48))) rest) (parts m (unit_of b)))) [
      | true ↦ same_capped seconds rank (10 * n + (b - 48)) (10 * m + (b - 48)) rest (omega (arith, same))
      | false ↦ by_unit (unit_of b)
    ]
  where
    parts : ℕ → Option (ℕ × ℕ) → Option ℕ
    parts k unit = option_and_then (λ (part : ℕ × ℕ). option_map (λ others. part.0 + others) (duration_from part.1 None rest)) (part_of rank (Some k) unit)

    by_left : (u : ℕ) (o : Option ℕ) → option_map (λ others. capped (seconds + others)) (option_map (λ others. n * u + others) o) ≡ option_map (λ others. capped (seconds + others)) (option_map (λ others. m * u + others) o)
    by_left u None = refl
    by_left u (Some others) = ap (λ k. Some k) (capped_product seconds n m u others same)

    by_rank : (unit : ℕ × ℕ) (t : Bool) → option_map (λ others. capped (seconds + others)) (option_and_then (λ (part : ℕ × ℕ). option_map (λ others. part.0 + others) (duration_from part.1 None rest)) (cond t (Some (n * unit.0, unit.1)) None)) ≡ option_map (λ others. capped (seconds + others)) (option_and_then (λ (part : ℕ × ℕ). option_map (λ others. part.0 + others) (duration_from part.1 None rest)) (cond t (Some (m * unit.0, unit.1)) None))
    by_rank unit true = by_left unit.0 (duration_from unit.1 None rest)
    by_rank unit false = refl

    by_unit : (o : Option (ℕ × ℕ)) → option_map (λ others. capped (seconds + others)) (parts n o) ≡ option_map (λ others. capped (seconds + others)) (parts m o)
    by_unit None = refl
    by_unit (Some unit) = by_rank unit (nat_lt rank unit.1)

-- a digit more
pub digit_turn : (bytes rest : List ℕ) (seconds rank b : ℕ) (digits : Option ℕ) → is_ascii_digit b ≡ true → Left bytes (b ∷ rest) seconds rank digits → Left bytes rest seconds rank (Some (capped (digit_after digits b)))
digit_turn bytes rest seconds rank b digits digit left = record {
  read = same_capped seconds rank (capped (digit_after digits b)) (digit_after digits b) rest (omega arith) ∙ sym (step digits) ∙ left.read;
  seconds_fit = left.seconds_fit;
  digits_fit = omega arith;
}
  where
    step : (digits : Option ℕ) → option_map (λ others. capped (seconds + others)) (duration_from rank digits (b ∷ rest)) ≡ option_map (λ others. capped (seconds + others)) (duration_from rank (Some (digit_after digits b)) rest)
    step None = ap (option_map (λ others. capped (seconds + others))) (cond-true (is_ascii_digit b) _ _ digit)
    step (Some n) = ap (option_map (λ others. capped (seconds + others))) (cond-true (is_ascii_digit b) _ _ digit)

-- a unit after its number
pub unit_turn : (bytes rest : List ℕ) (seconds rank b n : ℕ) (unit : ℕ × ℕ) → is_ascii_digit b ≡ false → unit_of b ≡ Some unit → rank < unit.1 → Left bytes (b ∷ rest) seconds rank (Some n) → Left bytes rest (capped (seconds + n * unit.0)) unit.1 None
unit_turn bytes rest seconds rank b n unit other is rises left = record {
  read = by_left (n * unit.0) (duration_from unit.1 None rest) ∙ sym step ∙ left.read;
  seconds_fit = omega arith;
  digits_fit = tt;
}
  where
    by_left : (product : ℕ) (o : Option ℕ) → option_map (λ others. capped (capped (seconds + product) + others)) o ≡ option_map (λ others. capped (seconds + others)) (option_map (λ others. product + others) o)
    by_left product None = refl
    by_left product (Some others) = let same : capped (capped (seconds + product) + others) ≡ capped (seconds + (product + others)) = omega arith in ap (λ k. Some k) same

    step : option_map (λ others. capped (seconds + others)) (duration_from rank (Some n) (b ∷ rest)) ≡ option_map (λ others. capped (seconds + others)) (option_map (λ others. n * unit.0 + others) (duration_from unit.1 None rest))
    step = ap (option_map (λ others. capped (seconds + others))) (cond-false (is_ascii_digit b) _ _ other
        ∙ ap (λ o. option_and_then (λ (part : ℕ × ℕ). option_map (λ others. part.0 + others) (duration_from part.1 None rest)) (part_of rank (Some n) o)) is
        ∙ ap (λ o. option_and_then (λ (part : ℕ × ℕ). option_map (λ others. part.0 + others) (duration_from part.1 None rest)) o) (cond-true (nat_lt rank unit.1) _ _ (lt-ltb rank unit.1 rises)))
