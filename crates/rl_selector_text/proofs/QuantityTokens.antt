-- The canonical text of a quantity is one token, and is read as the quantity.
use Rattle.std.proofs.Common.{◌≡◌, ℕ, true, false, not, ◌^◌, ◌<◌, List, [], ◌∷◌, ◌++◌, length, nat_lt, nat_le, Some, refl, sym, ap, subst, ◌∙◌, arith, append_assoc, append-nil}
use Rattle.std.specs.List.{list_all}
use Rattle.std.specs.Fmt.{decimal}
use Rattle.std.specs.Option.{option_map, option_or}
use Rattle.std.specs.Char.{is_ascii_digit}
use Rattle.std.proofs.lemmas.Bool.{and_parts, and_from, or_right, cond-true, cond-false, lt-ltb, true≢false}
use Rattle.std.proofs.lemmas.Bool.Decides.{nat_tests}
use Rattle.std.proofs.lemmas.List.Folds.{list_all-append, list_any-append, list_any_none}
use Rattle.rl_labels.specs.Decimals.{DecimalForm}
use Rattle.rl_labels.specs.Quantities.{is_byte_of, size_of}
use Rattle.rl_labels.specs.QuantityTexts.{decimal_text, duration_unit_text, size_unit_text, part_text, duration_text, size_text, is_decimal}
use Rattle.rl_labels.specs.laws.QuantityLaws.{decimal_bytes, decimal_again, duration_again, size_again, size_no_duration}
use Rattle.rl_labels.specs.declared.duration.DurationUnit.{DurationUnit}
use Rattle.rl_labels.specs.declared.duration.DurationUnit.TheVariants as time
use Rattle.rl_labels.specs.declared.duration.DurationPart.{DurationPart}
use Rattle.rl_labels.specs.declared.size.SizeUnit.{SizeUnit}
use Rattle.rl_labels.specs.declared.size.SizeUnit.TheVariants as sizes
use Rattle.rl_query.specs.declared.quantity_test.Quantity.{Quantity}
use Rattle.rl_query.specs.declared.quantity_test.Quantity.TheVariants as quantities
use Rattle.rl_selector_text.specs.Lexing.{is_number_byte}
use Rattle.rl_query.specs.Quantities.{has_unit, quantity_of, quantity_text, is_quantity}
use Rattle.std.proofs.lemmas.List.Sums.{AllPass-from_list_all}

-- bytes of a number, the first of which is a digit
pub record IsNumber (text : List ℕ) : Type 0 where
  pub first : ℕ
  pub others : List ℕ
  pub is : text ≡ first ∷ others
  pub digit : is_ascii_digit first ≡ true
  pub bytes : list_all is_number_byte text ≡ true

weaker : (text : List ℕ) → list_all (is_byte_of true) text ≡ true → list_all is_number_byte text ≡ true
weaker [] h = refl
weaker (b ∷ bytes) h = let parts = and_parts (is_byte_of true b) (list_all (is_byte_of true) bytes) h in and_from (is_number_byte b) _ (grind (arith, nat_tests, parts.0)) (weaker bytes parts.1)

-- a decimal, and what follows it
decimal_then : (d : DecimalForm) (rest : List ℕ) → is_decimal d ≡ true → list_all is_number_byte rest ≡ true → IsNumber (decimal_text d ++ rest)
decimal_then d rest h are =
    let text = decimal_bytes d h in
    record { first = text.first; others = text.others ++ rest; is = ap (λ t. t ++ rest) text.is; digit = text.digit; bytes = list_all-append is_number_byte (decimal_text d) rest ∙ and_from (list_all is_number_byte (decimal_text d)) _ (weaker (decimal_text d) text.bytes) are }

-- a number without a point
abbrev pub whole : ℕ → DecimalForm
whole n = record { whole = n; fraction = 0; digits = 0 }

pub whole_proper : (n : ℕ) → n < 10 ^ 15 → is_decimal (whole n) ≡ true
whole_proper n small = and_from (nat_lt n (10 ^ 15)) _ (lt-ltb n (10 ^ 15) small) refl

pub whole_then : (n : ℕ) (rest : List ℕ) → n < 10 ^ 15 → list_all is_number_byte rest ≡ true → IsNumber (decimal n ++ rest)
whole_then n rest small are = subst (λ t. IsNumber (t ++ rest)) (append-nil (decimal n)) (decimal_then (whole n) rest (whole_proper n small) are)

-- a unit has bytes of a number, but no digit and no point
duration_unit : (unit : DurationUnit) (rest : List ℕ) → (list_all is_number_byte (duration_unit_text unit) ≡ true) × (has_unit (duration_unit_text unit ++ rest) ≡ true)
duration_unit time.Nanosecond rest = (refl, refl)
duration_unit _ rest = (refl, refl)

size_unit : (unit : SizeUnit) → (list_all is_number_byte (size_unit_text unit) ≡ true) × (has_unit (size_unit_text unit) ≡ true)
size_unit sizes.Byte = (refl, refl)
size_unit _ = (refl, refl)

part_then : (part : DurationPart) (rest : List ℕ) → is_decimal part.number ≡ true → list_all is_number_byte rest ≡ true → IsNumber (part_text part ++ rest)
part_then part rest h are =
    let unit = duration_unit_text part.unit in
    subst IsNumber (sym (append_assoc (decimal_text part.number) unit rest)) (decimal_then part.number (unit ++ rest) h (list_all-append is_number_byte unit rest ∙ and_from (list_all is_number_byte unit) _ (duration_unit part.unit rest).0 are))

parts_bytes : (parts : List DurationPart) → list_all (λ part. is_decimal part.number) parts ≡ true → list_all is_number_byte (duration_text parts) ≡ true
parts_bytes [] h = refl
parts_bytes (part ∷ parts) h = let kept = and_parts (is_decimal part.number) _ h in (part_then part (duration_text parts) kept.0 (parts_bytes parts kept.1)).bytes

pub quantity_number : (quantity : Quantity) → is_quantity quantity ≡ true → IsNumber (quantity_text quantity)
quantity_number (quantities.Number d) h = subst IsNumber (append-nil (decimal_text d)) (decimal_then d [] h refl)
quantity_number (quantities.Duration []) h = absurd (true≢false (sym h))
quantity_number (quantities.Duration (part ∷ parts)) h =
    let kept = and_parts (is_decimal part.number) _ (and_parts (nat_le (length (part ∷ parts)) 8) _ (and_parts (nat_lt 0 (length (part ∷ parts))) _ h).1).1 in
    part_then part (duration_text parts) kept.0 (parts_bytes parts kept.1)
quantity_number (quantities.Size size) h = decimal_then size.number (size_unit_text size.unit) h (size_unit size.unit).0

no_unit : (text : List ℕ) → list_all (is_byte_of true) text ≡ true → has_unit text ≡ false
no_unit text h = list_any_none (is_byte_of false) text (λ k d below. ap not (AllPass-from_list_all (is_byte_of true) text h k d below))

later : (front rest : List ℕ) → has_unit rest ≡ true → has_unit (front ++ rest) ≡ true
later front rest h = list_any-append (is_byte_of false) front rest ∙ or_right (has_unit front) _ h

-- a quantity is read from its canonical text
pub quantity_again : (quantity : Quantity) → is_quantity quantity ≡ true → quantity_of (quantity_text quantity) ≡ Some quantity
quantity_again (quantities.Number d) h =
    cond-false (has_unit (decimal_text d)) _ _ (no_unit (decimal_text d) (decimal_bytes d h).bytes) ∙ ap (option_map quantities.Number) (decimal_again d h)
quantity_again (quantities.Duration []) h = absurd (true≢false (sym h))
quantity_again (quantities.Duration (part ∷ parts)) h =
    let text = duration_text (part ∷ parts) in
    let unit : has_unit text ≡ true = ap has_unit (append_assoc (decimal_text part.number) (duration_unit_text part.unit) (duration_text parts)) ∙ later (decimal_text part.number) (duration_unit_text part.unit ++ duration_text parts) (duration_unit part.unit (duration_text parts)).1 in
    cond-true (has_unit text) _ _ unit ∙ ap (λ read. option_or (option_map quantities.Duration read) (option_map quantities.Size (size_of text))) (duration_again (part ∷ parts) h)
quantity_again (quantities.Size size) h =
    let text = size_text size in
    cond-true (has_unit text) _ _ (later (decimal_text size.number) (size_unit_text size.unit) (size_unit size.unit).1)
    ∙ ap (λ read. option_or (option_map quantities.Duration read) (option_map quantities.Size (size_of text))) (size_no_duration size h)
    ∙ ap (option_map quantities.Size) (size_again size h)
