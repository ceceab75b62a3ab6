-- Words of digits, read as numbers.
use Rattle.std.proofs.Common.{◌≡◌, ◌<◌, ◌≤◌, ℕ, ◌^◌, Bool, true, false, cond, ◌&&◌, List, [], ◌∷◌, length, None, Some, Result, Ok, Err, refl, sym, ap, subst, ◌∙◌, arith}
use Rattle.std.specs.Prelude.{nat_lt}
use Rattle.std.specs.Char.{is_ascii_digit}
use Rattle.std.specs.List.{list_all}
use Rattle.std.specs.Result.{OkIff, result_ok}
use Rattle.std.specs.Str.Parse.{AllDigits, IsNumeral, ParsesUnsigned, digits_value, without_leading_plus}
use Rattle.std.proofs.lemmas.Bool.{leb-true, lt-ltb, ltb-true, true≢false}
use Rattle.std.proofs.lemmas.Str.{digit_value_digit}
use Rattle.std.proofs.lemmas.Str.Parse.{without_leading_plus_none}
use Rattle.rl_session.specs.Command.{id_of, is_number}

both : (a b : Bool) → (a && b) ≡ true → (a ≡ true) × (b ≡ true)
both true b is = (refl, is)
both false b is = absurd (true≢false (sym is))

in_range : (c : ℕ) → is_ascii_digit c ≡ true → (48 ≤ c) × (c ≤ 57)
in_range c is = let parts = both _ _ is in (leb-true 48 c parts.0, leb-true c 57 parts.1)

all_digits : (bs : List ℕ) → list_all is_ascii_digit bs ≡ true → AllDigits 10 bs
all_digits [] is = tt
all_digits (c ∷ cs) is =
    let parts = both (is_ascii_digit c) (list_all is_ascii_digit cs) is in
    let range = in_range c parts.0 in
    (omega (arith, digit_value_digit c range, range.1), all_digits cs parts.1)

-- a word of digits has no sign
no_sign : (bs : List ℕ) → list_all is_ascii_digit bs ≡ true → without_leading_plus bs ≡ bs
no_sign [] is = refl
no_sign (c ∷ cs) is = without_leading_plus_none (c ∷ cs) (λ plus. absurd (omega (arith, (in_range c (both (is_ascii_digit c) (list_all is_ascii_digit cs) is).0).0, plus)))

-- what reads a word of digits reads its number, if it is one of 64 bits
pub id_read : {E : Type 0} (word : List ℕ) (read : Result ℕ E) → is_number word ≡ true → ParsesUnsigned 64 10 word read → result_ok read ≡ id_of word
id_read word read is parses =
    let parts = both (nat_lt 0 (length word)) (list_all is_ascii_digit word) is in
    let plain = no_sign word parts.1 in
    by read (subst (λ ds. OkIff read (IsNumeral 10 ds × (digits_value 10 ds < 2 ^ 64)) (digits_value 10 ds)) plain parses)
    ∙ ap (λ b. cond (b && nat_lt (digits_value 10 word) (2 ^ 64)) (Some (digits_value 10 word)) None) (sym is)
  where
    numeral : IsNumeral 10 word
    numeral = let parts = both (nat_lt 0 (length word)) (list_all is_ascii_digit word) is in (ltb-true 0 (length word) parts.0, all_digits word parts.1)

    by : {F : Type 0} (read : Result ℕ F) → OkIff read (IsNumeral 10 word × (digits_value 10 word < 2 ^ 64)) (digits_value 10 word) → result_ok read ≡ cond (nat_lt (digits_value 10 word) (2 ^ 64)) (Some (digits_value 10 word)) None
    by (Ok n) said = ap (λ m. Some m) said.1 ∙ sym (ap (λ b. cond b (Some (digits_value 10 word)) None) (lt-ltb (digits_value 10 word) (2 ^ 64) said.0.1))
    by (Err e) said = elim (nat_lt (digits_value 10 word) (2 ^ 64)) as (λ b. nat_lt (digits_value 10 word) (2 ^ 64) ≡ b → None ≡ cond b (Some (digits_value 10 word)) None) [
      | true ↦ λ below. absurd (said (numeral, ltb-true (digits_value 10 word) (2 ^ 64) below))
      | false ↦ λ _. refl
    ] refl
