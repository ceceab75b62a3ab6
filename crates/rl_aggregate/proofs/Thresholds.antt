-- A threshold in millionths.
use Rattle.std.proofs.Common.{◌≡◌, ℕ, ◌+◌, ◌-◌, ◌*◌, ◌^◌, ◌<◌, ◌≤◌, sym, ap, subst, ◌∙◌, arith}
use Rattle.std.proofs.lemmas.Nat.{pow-add}
use Rattle.std.proofs.Math.Nat.{mul_assoc, mul-lt-mul_of_pos_right, one-le-pow}

-- billionths of a number with at most six digits after its point are thousands of millionths
pub in_thousands : (whole fraction digits : ℕ) → digits ≤ 6 → whole * 1000000000 + fraction * 10 ^ (9 - digits) ≡ (whole * 1000000 + fraction * 10 ^ (6 - digits)) * 1000
in_thousands whole fraction digits few =
    let sum : 9 - digits ≡ (6 - digits) + 3 = omega (arith, few) in
    let power : 10 ^ (9 - digits) ≡ 10 ^ (6 - digits) * 1000 = ap (λ n. 10 ^ n) sum ∙ pow-add 10 (6 - digits) 3 in
    let product : fraction * 10 ^ (9 - digits) ≡ (fraction * 10 ^ (6 - digits)) * 1000 = ap (λ n. fraction * n) power ∙ sym (mul_assoc fraction (10 ^ (6 - digits)) 1000) in
    omega (arith, product)

-- and less than a million of them stand after the point
pub millionths-below : (fraction digits : ℕ) → digits ≤ 6 → fraction < 10 ^ digits → fraction * 10 ^ (6 - digits) < 1000000
millionths-below fraction digits few below =
    let sum : digits + (6 - digits) ≡ 6 = omega (arith, few) in
    let whole : 10 ^ digits * 10 ^ (6 - digits) ≡ 1000000 = sym (pow-add 10 digits (6 - digits)) ∙ ap (λ n. 10 ^ n) sum in
    subst (λ m. fraction * 10 ^ (6 - digits) < m) whole (mul-lt-mul_of_pos_right below (one-le-pow (6 - digits) 10 (omega arith)))
