-- The number that a row of digits writes, digit by digit, and how great it is.
use Rattle.std.proofs.Common.{◌≡◌, ℕ, ◌<◌, ◌≤◌, ◌^◌, ◌*◌, ◌+◌, ◌-◌, Bool, true, false, List, length, take, get_or, refl, sym, ap, subst, ◌∙◌, arith}
use Rattle.std.specs.List.{list_all}
use Rattle.std.specs.Char.{is_ascii_digit}
use Rattle.std.specs.Str.Parse.{digits_value}
use Rattle.std.proofs.lemmas.Bool.{true≢false}
use Rattle.std.proofs.lemmas.Bool.Decides.{nat_tests}
use Rattle.std.proofs.lemmas.Int.Digits.{digits_value_more}
use Rattle.std.proofs.lemmas.List.Folds.{list_all_at}
use Rattle.std.proofs.lemmas.Nat.{pow-add}
use Rattle.std.proofs.lemmas.Str.{digit_value_digit}
use Rattle.std.proofs.lemmas.Str.Parse.{digits_value-take-le}
use Rattle.rl_labels.specs.laws.QuantityLaws.{row-below}
use Rattle.std.proofs.Math.Nat.{mul-lt-mul_of_pos_right, one-le-pow}

digit_at : (digits : List ℕ) (i : ℕ) → i < length digits → list_all is_ascii_digit digits ≡ true → is_ascii_digit (get_or digits i 0) ≡ true
digit_at digits i inside are = at (is_ascii_digit (get_or digits i 0)) refl
  where
    at : (b : Bool) → is_ascii_digit (get_or digits i 0) ≡ b → b ≡ true
    at true is = refl
    at false is = absurd (true≢false (sym are ∙ list_all_at is_ascii_digit digits i 0 inside is))

-- a digit more
pub digit_more : (digits : List ℕ) (i : ℕ) → i < length digits → list_all is_ascii_digit digits ≡ true → digits_value 10 (take (i + 1) digits) ≡ 10 * digits_value 10 (take i digits) + (get_or digits i 0 - 48)
digit_more digits i inside are =
    let range : (48 ≤ get_or digits i 0) × (get_or digits i 0 ≤ 57) = grind (arith, nat_tests, digit_at digits i inside are) in
    omega (arith, digits_value_more 10 digits i inside, digit_value_digit (get_or digits i 0) range)

-- some of the digits write no more than all
pub front-below : (digits : List ℕ) (i most : ℕ) → list_all is_ascii_digit digits ≡ true → length digits ≤ most → digits_value 10 (take i digits) < 10 ^ most
front-below digits i most are few =
    let all = row-below digits most are few in
    let front = digits_value-take-le 10 digits i (omega arith) in
    omega (arith, all, front)

-- a number below the power of its digits, with zeros after it up to nine digits
pub zeros_after-below : (n k : ℕ) → k ≤ 9 → n < 10 ^ k → n * 10 ^ (9 - k) < 1000000000
zeros_after-below n k few below =
    let sum : k + (9 - k) ≡ 9 = omega (arith, few) in
    let whole : 10 ^ k * 10 ^ (9 - k) ≡ 1000000000 = sym (pow-add 10 k (9 - k)) ∙ ap (λ n. 10 ^ n) sum in
    subst (λ m. n * 10 ^ (9 - k) < m) whole (mul-lt-mul_of_pos_right below (one-le-pow (9 - k) 10 (omega arith)))
