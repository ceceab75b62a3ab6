-- Decimals, durations and sizes are read again from their canonical texts, and what is read keeps to their limits.
use Rattle.std.specs.Prelude.{◌≡◌, ℕ, zero, suc, ◌+◌, ◌/◌, ◌%◌, ◌^◌, ◌<◌, ◌≤◌, ◌==◌, nat_lt, nat_le, Bool, true, false, cond, not, ◌&&◌, ◌||◌, List, [], ◌∷◌, ◌++◌, length, take, drop, Option, Some, None, option_map, option_and_then, refl}
use Rattle.std.specs.List.{list_all, prefix_len, flat_map}
use Rattle.std.specs.Char.{is_ascii_digit}
use Rattle.std.specs.Fmt.{decimal}
use Rattle.std.specs.Str.{all_ascii_digits}
use Rattle.std.specs.Str.Parse.{digits_value}
use Rattle.std.proofs.Common.{sym, ap, subst, ◌∙◌, arith, append_assoc, append-nil, length-append}
use Rattle.std.proofs.lemmas.Bool.{and_parts, and_from, cond-true, cond-false, true≢false, lt-ltb, le-leb, le-ltb, ltb-true, leb-true}
use Rattle.std.proofs.lemmas.Bool.Decides.{nat_tests}
use Rattle.std.proofs.lemmas.Fmt.{digits_decimal, digits_value-decimal, decimal_nonempty, length-decimal-le}
use Rattle.std.proofs.lemmas.Int.Digits.{digits_value_push}
use Rattle.std.proofs.lemmas.List.Folds.{list_all-append}
use Rattle.std.proofs.lemmas.Str.{digit_value_digit}
use Rattle.std.proofs.lemmas.Str.Parse.{digits_value_short, numerals_by_value, tells_all_ascii_digits}
use Rattle.std.proofs.Math.Nat.{pow-suc, div-lt_iff_lt-mul}
use Rattle.std.proofs.Math.Seq.{take-append_seam, drop-append_seam, drop-append-add}
use Rattle.rl_labels.specs.Decimals.{is_row, number_of, DecimalForm, cut_at_point, decimal_of_parts, decimal_of}
use Rattle.rl_labels.specs.Quantities.{duration_unit, size_unit, is_byte_of, front_of, part_of, part_at, part_then, parts_of, duration_of, without_space, size_of_parts, size_of}
use Rattle.rl_labels.specs.QuantityTexts.{digits_text, decimal_text, duration_unit_text, size_unit_text, part_text, duration_text, size_text, is_decimal, is_duration, is_size}
use Rattle.rl_labels.specs.declared.duration.DurationUnit.{DurationUnit}
use Rattle.rl_labels.specs.declared.duration.DurationUnit.TheVariants as time
use Rattle.rl_labels.specs.declared.duration.DurationPart.{DurationPart}
use Rattle.rl_labels.specs.declared.size.SizeUnit.{SizeUnit}
use Rattle.rl_labels.specs.declared.size.SizeUnit.TheVariants as sizes
use Rattle.rl_labels.specs.declared.size.Size.{Size}

-- The digits of numbers.

all_digits : (text : List ℕ) → all_ascii_digits text ≡ list_all is_ascii_digit text
all_digits [] = refl
all_digits (byte ∷ bytes) = ap (λ b. is_ascii_digit byte && b) (all_digits bytes)

-- a row of at most `most` digits is below 10 ^ `most`
pub row-below : (digits : List ℕ) (most : ℕ) → list_all is_ascii_digit digits ≡ true → length digits ≤ most → digits_value 10 digits < 10 ^ most
row-below digits most are few = digits_value_short (numerals_by_value _ tells_all_ascii_digits) digits most (all_digits digits ∙ are) few

decimal_digits : (n : ℕ) → n < 2 ^ 64 → list_all is_ascii_digit (decimal n) ≡ true
decimal_digits n small = sym (all_digits (decimal n)) ∙ digits_decimal (numerals_by_value _ tells_all_ascii_digits) n small

digit_byte : (n : ℕ) → n < 10 → is_ascii_digit (48 + n) ≡ true
digit_byte n small = grind (arith, nat_tests)

digits_are : (k n : ℕ) → list_all is_ascii_digit (digits_text k n) ≡ true
digits_are zero n = refl
digits_are (suc k) n =
    list_all-append is_ascii_digit (digits_text k (n / 10)) ((48 + n % 10) ∷ [])
    ∙ and_from (list_all is_ascii_digit (digits_text k (n / 10))) _ (digits_are k (n / 10)) (and_from (is_ascii_digit (48 + n % 10)) true (digit_byte (n % 10) (omega arith)) refl)

digits_length : (k n : ℕ) → length (digits_text k n) ≡ k
digits_length zero n = refl
digits_length (suc k) n = omega (arith, length-append (digits_text k (n / 10)) ((48 + n % 10) ∷ []), digits_length k (n / 10))

-- a number that has so few digits is what they write
digits_read : (k n : ℕ) → n < 10 ^ k → digits_value 10 (digits_text k n) ≡ n
digits_read zero n below = let none : 0 ≡ n = omega (arith, below) in none
digits_read (suc k) n below =
    let front : n / 10 < 10 ^ k = (div-lt_iff_lt-mul (omega arith)).1 (subst (λ m. n < m) (pow-suc 10 k) below) in
    omega (arith, digits_value_push 10 (digits_text k (n / 10)) (48 + n % 10), digits_read k (n / 10) front, digit_value_digit (48 + n % 10) (omega arith, omega arith))

-- A row of digits is read as its number.

number_again : (most n : ℕ) (text : List ℕ) → 0 < length text → length text ≤ most → list_all is_ascii_digit text ≡ true → digits_value 10 text ≡ n → number_of most text ≡ Some n
number_again most n text full few are is =
    cond-true (is_row most text) _ _ (and_from (nat_lt 0 (length text)) _ (lt-ltb 0 (length text) full) (and_from (nat_le (length text) most) _ (le-leb (length text) most few) are))
    ∙ ap (λ m. Some m) is

whole_again : (n : ℕ) → n < 10 ^ 15 → number_of 15 (decimal n) ≡ Some n
whole_again n below =
    let small : n < 2 ^ 64 = omega (arith, below) in
    number_again 15 n (decimal n) (decimal_nonempty n small) (length-decimal-le 15 n (omega arith) below small) (decimal_digits n small) (digits_value-decimal (numerals_by_value _ tells_all_ascii_digits) n small)

fraction_again : (k n : ℕ) → 0 < k → k ≤ 9 → n < 10 ^ k → number_of 9 (digits_text k n) ≡ Some n
fraction_again k n some few below =
    number_again 9 n (digits_text k n) (omega (arith, some, digits_length k n)) (omega (arith, few, digits_length k n)) (digits_are k n) (digits_read k n below)

-- Fronts of texts.

weaker : (p q : ℕ → Bool) → ((b : ℕ) → p b ≡ true → q b ≡ true) → (xs : List ℕ) → list_all p xs ≡ true → list_all q xs ≡ true
weaker p q step [] h = refl
weaker p q step (x ∷ xs) h = let parts = and_parts (p x) (list_all p xs) h in and_from (q x) _ (step x parts.0) (weaker p q step xs parts.1)

run : (p : ℕ → Bool) (front rest : List ℕ) → list_all p front ≡ true → prefix_len p rest ≡ 0 → prefix_len p (front ++ rest) ≡ length front
run p [] rest h stop = stop
run p (x ∷ xs) rest h stop =
    let parts = and_parts (p x) (list_all p xs) h in
    let one_more : 1 + length xs ≡ length (x ∷ xs) = omega arith in
    cond-true (p x) _ _ parts.0 ∙ ap (λ n. 1 + n) (run p xs rest parts.1 stop) ∙ one_more

is_no_point : (b : ℕ) → is_ascii_digit b ≡ true → not (b == 46) ≡ true
is_no_point b h = grind (arith, nat_tests)

no_cut : (text : List ℕ) → list_all is_ascii_digit text ≡ true → cut_at_point text ≡ None
no_cut text are =
    let all : prefix_len (λ b. not (b == 46)) text ≡ length text = subst (λ t. prefix_len (λ b. not (b == 46)) t ≡ length text) (append-nil text) (run (λ b. not (b == 46)) text [] (weaker is_ascii_digit (λ b. not (b == 46)) is_no_point text are) refl) in
    ap (option_map (λ offset. (take offset text, drop (offset + 1) text))) (cond-false (nat_lt (prefix_len (λ b. not (b == 46)) text) (length text)) _ _ (le-ltb _ _ (omega (arith, all))))

cut : (front following : List ℕ) → list_all is_ascii_digit front ≡ true → cut_at_point (front ++ 46 ∷ following) ≡ Some (front, following)
cut front following are =
    let text = front ++ 46 ∷ following in
    let at : prefix_len (λ b. not (b == 46)) text ≡ length front = run (λ b. not (b == 46)) front (46 ∷ following) (weaker is_ascii_digit (λ b. not (b == 46)) is_no_point front are) refl in
    let inside : prefix_len (λ b. not (b == 46)) text < length text = omega (arith, at, length-append front (46 ∷ following)) in
    ap (option_map (λ offset. (take offset text, drop (offset + 1) text))) (cond-true (nat_lt (prefix_len (λ b. not (b == 46)) text) (length text)) _ _ (lt-ltb _ _ inside) ∙ ap (λ n. Some n) at)
    ∙ (λ i. Some (take-append_seam front (46 ∷ following) i, drop-append-add front (46 ∷ following) 1 i))

-- Decimals.

again : (whole fraction digits : ℕ) → whole < 10 ^ 15 → fraction < 10 ^ digits → digits ≤ 9 → decimal_of 15 (decimal_text (record { whole = whole; fraction = fraction; digits = digits })) ≡ Some (record { whole = whole; fraction = fraction; digits = digits })
again whole fraction zero below fits few =
    let small : whole < 2 ^ 64 = omega (arith, below) in
    let none : 0 ≡ fraction = omega (arith, fits) in
    ap (decimal_of 15) (append-nil (decimal whole))
    ∙ ap (decimal_of_parts 15 (decimal whole)) (no_cut (decimal whole) (decimal_digits whole small))
    ∙ ap (option_map (λ n. record { whole = n; fraction = 0; digits = 0 })) (whole_again whole below)
    ∙ ap (λ n. Some (record { whole = whole; fraction = n; digits = 0 })) none
again whole fraction (suc k) below fits few =
    let small : whole < 2 ^ 64 = omega (arith, below) in
    let following = digits_text (suc k) fraction in
    let point : (suc k == 0) ≡ false = grind (arith, nat_tests) in
    ap (λ b. decimal_of 15 (decimal whole ++ cond b [] (46 ∷ following))) point
    ∙ ap (decimal_of_parts 15 (decimal whole ++ 46 ∷ following)) (cut (decimal whole) following (decimal_digits whole small))
    ∙ ap (option_and_then (λ n. option_map (λ m. record { whole = n; fraction = m; digits = length following }) (number_of 9 following))) (whole_again whole below)
    ∙ ap (option_map (λ m. record { whole = whole; fraction = m; digits = length following })) (fraction_again (suc k) fraction (omega arith) few fits)
    ∙ ap (λ n. Some (record { whole = whole; fraction = fraction; digits = n })) (digits_length (suc k) fraction)

record Limits (d : DecimalForm) : Type 0 where
  pub whole : d.whole < 10 ^ 15
  pub fraction : d.fraction < 10 ^ d.digits
  pub digits : d.digits ≤ 9

limits : (d : DecimalForm) → is_decimal d ≡ true → Limits d
limits d h =
    let parts = and_parts (nat_lt d.whole (10 ^ 15)) (nat_lt d.fraction (10 ^ d.digits) && nat_le d.digits 9) h in
    let following = and_parts (nat_lt d.fraction (10 ^ d.digits)) (nat_le d.digits 9) parts.1 in
    record { whole = ltb-true _ _ parts.0; fraction = ltb-true _ _ following.0; digits = leb-true _ _ following.1 }

-- a decimal is read from its canonical text
pub decimal_again : (d : DecimalForm) → is_decimal d ≡ true → decimal_of 15 (decimal_text d) ≡ Some d
decimal_again d h = let kept = limits d h in again d.whole d.fraction d.digits kept.whole kept.fraction kept.digits

-- what a row of digits was that was read
record Row (most n : ℕ) (text : List ℕ) : Type 0 where
  pub few : length text ≤ most
  pub below : (digits : ℕ) → length text ≤ digits → n < 10 ^ digits

row_read : (most n : ℕ) (text : List ℕ) → number_of most text ≡ Some n → Row most n text
row_read most n text = by_test (is_row most text) refl
  where
    by_test : (b : Bool) → is_row most text ≡ b → cond b (Some (digits_value 10 text)) None ≡ Some n → Row most n text
    by_test false row h = cc
    by_test true row h =
        let parts = and_parts (nat_lt 0 (length text)) (nat_le (length text) most && list_all is_ascii_digit text) row in
        let following = and_parts (nat_le (length text) most) (list_all is_ascii_digit text) parts.1 in
        let is : digits_value 10 text ≡ n = cc in
        record { few = leb-true _ _ following.0; below = λ digits few. subst (λ m. m < 10 ^ digits) is (row-below text digits following.1 few) }

kept : (d : DecimalForm) → Limits d → is_decimal d ≡ true
kept d l = and_from (nat_lt d.whole (10 ^ 15)) _ (lt-ltb _ _ l.whole) (and_from (nat_lt d.fraction (10 ^ d.digits)) _ (lt-ltb _ _ l.fraction) (le-leb _ _ l.digits))

parts_proper : (text : List ℕ) (parts : Option (List ℕ × List ℕ)) (d : DecimalForm) → decimal_of_parts 15 text parts ≡ Some d → is_decimal d ≡ true
parts_proper text None d = by_whole (number_of 15 text) refl
  where
    by_whole : (r : Option ℕ) → number_of 15 text ≡ r → option_map (λ n. record { whole = n; fraction = 0; digits = 0 }) r ≡ Some d → is_decimal d ≡ true
    by_whole None read h = cc
    by_whole (Some n) read h =
        let row = row_read 15 n text read in
        let is : record { whole = n; fraction = 0; digits = 0 } ≡ d = cc in
        subst (λ e. is_decimal e ≡ true) is (kept (record { whole = n; fraction = 0; digits = 0 }) (record { whole = row.below 15 row.few; fraction = omega arith; digits = omega arith }))
parts_proper text (Some parts) d = by_whole (number_of 15 parts.0) refl
  where
    by_fraction : (n : ℕ) → Row (15) n parts.0 → (r : Option ℕ) → number_of 9 parts.1 ≡ r → option_map (λ m. record { whole = n; fraction = m; digits = length parts.1 }) r ≡ Some d → is_decimal d ≡ true
    by_fraction n whole None read h = cc
    by_fraction n whole (Some m) read h =
        let row = row_read 9 m parts.1 read in
        let is : record { whole = n; fraction = m; digits = length parts.1 } ≡ d = cc in
        subst (λ e. is_decimal e ≡ true) is (kept (record { whole = n; fraction = m; digits = length parts.1 }) (record { whole = whole.below 15 whole.few; fraction = row.below (length parts.1) (omega arith); digits = row.few }))

    by_whole : (r : Option ℕ) → number_of 15 parts.0 ≡ r → option_and_then (λ n. option_map (λ m. record { whole = n; fraction = m; digits = length parts.1 }) (number_of 9 parts.1)) r ≡ Some d → is_decimal d ≡ true
    by_whole None read h = cc
    by_whole (Some n) read h = by_fraction n (row_read 15 n parts.0 read) (number_of 9 parts.1) refl h

-- a decimal that was read keeps to the limits
pub decimal_proper : (text : List ℕ) (d : DecimalForm) → decimal_of 15 text ≡ Some d → is_decimal d ≡ true
decimal_proper text d h = parts_proper text (cut_at_point text) d h

-- the bytes of a decimal's canonical text, the first of which is a digit

digit_of_number : (b : ℕ) → is_ascii_digit b ≡ true → is_byte_of true b ≡ true
digit_of_number b h = ap (λ t. t || b == 46) h

pub record Bytes (text : List ℕ) : Type 0 where
  pub bytes : list_all (is_byte_of true) text ≡ true
  pub first : ℕ
  pub others : List ℕ
  pub is : text ≡ first ∷ others
  pub digit : is_ascii_digit first ≡ true

bytes_of : (text rest : List ℕ) → 0 < length text → list_all is_ascii_digit text ≡ true → list_all (is_byte_of true) rest ≡ true → Bytes (text ++ rest)
bytes_of [] rest full are following = absurd (omega arith)
bytes_of (x ∷ xs) rest full are following = record {
  bytes = list_all-append (is_byte_of true) (x ∷ xs) rest ∙ and_from (list_all (is_byte_of true) (x ∷ xs)) _ (weaker is_ascii_digit (is_byte_of true) digit_of_number (x ∷ xs) are) following;
  first = x;
  others = xs ++ rest;
  is = refl;
  digit = (and_parts (is_ascii_digit x) (list_all is_ascii_digit xs) are).0;
}

after_point : (b : Bool) (k n : ℕ) → list_all (is_byte_of true) (cond b [] (46 ∷ digits_text k n)) ≡ true
after_point true k n = refl
after_point false k n = weaker is_ascii_digit (is_byte_of true) digit_of_number (digits_text k n) (digits_are k n)

pub decimal_bytes : (d : DecimalForm) → is_decimal d ≡ true → Bytes (decimal_text d)
decimal_bytes d h =
    let small : d.whole < 2 ^ 64 = let below = (limits d h).whole in omega (arith, below) in
    bytes_of (decimal d.whole) (cond (d.digits == 0) [] (46 ∷ digits_text d.digits d.fraction)) (decimal_nonempty d.whole small) (decimal_digits d.whole small) (after_point (d.digits == 0) d.digits d.fraction)

front_again : (of_number : Bool) (front rest : List ℕ) → list_all (is_byte_of of_number) front ≡ true → prefix_len (is_byte_of of_number) rest ≡ 0 → front_of of_number (front ++ rest) ≡ (front, rest)
front_again of_number front rest are stop =
    ap (λ n. (take n (front ++ rest), drop n (front ++ rest))) (run (is_byte_of of_number) front rest are stop)
    ∙ (λ i. (take-append_seam front rest i, drop-append_seam front rest i))

-- Sizes.

size_unit_stops : (unit : SizeUnit) → prefix_len (is_byte_of true) (size_unit_text unit) ≡ 0
size_unit_stops sizes.Byte = refl
size_unit_stops sizes.Kilobyte = refl
size_unit_stops sizes.Kibibyte = refl
size_unit_stops sizes.Megabyte = refl
size_unit_stops sizes.Mebibyte = refl
size_unit_stops sizes.Gigabyte = refl
size_unit_stops sizes.Gibibyte = refl

size_unit_again : (unit : SizeUnit) → size_unit (without_space (size_unit_text unit)) ≡ Some unit
size_unit_again sizes.Byte = refl
size_unit_again sizes.Kilobyte = refl
size_unit_again sizes.Kibibyte = refl
size_unit_again sizes.Megabyte = refl
size_unit_again sizes.Mebibyte = refl
size_unit_again sizes.Gigabyte = refl
size_unit_again sizes.Gibibyte = refl

-- a size is read from its canonical text
pub size_again : (size : Size) → is_size size ≡ true → size_of (size_text size) ≡ Some size
size_again size h =
    ap (λ front. size_of_parts (decimal_of 15 front.0) (size_unit (without_space front.1))) (front_again true (decimal_text size.number) (size_unit_text size.unit) (decimal_bytes size.number h).bytes (size_unit_stops size.unit))
    ∙ ap (λ number. size_of_parts number (size_unit (without_space (size_unit_text size.unit)))) (decimal_again size.number h)
    ∙ ap (size_of_parts (Some size.number)) (size_unit_again size.unit)

-- a size that was read keeps to the limits
pub size_proper : (text : List ℕ) (size : Size) → size_of text ≡ Some size → is_size size ≡ true
size_proper text size h =
    by_parts (decimal_of 15 (front_of true text).0) (size_unit (without_space (front_of true text).1)) refl h
  where
    by_parts : (number : Option DecimalForm) (unit : Option SizeUnit) → decimal_of 15 (front_of true text).0 ≡ number → size_of_parts number unit ≡ Some size → is_size size ≡ true
    by_parts None unit read h = cc
    by_parts (Some number) None read h = cc
    by_parts (Some number) (Some unit) read h =
        let is : record { number = number; unit = unit } ≡ size = cc in
        subst (λ s. is_size s ≡ true) is (decimal_proper (front_of true text).0 number read)

-- Durations.

duration_unit_stops : (unit : DurationUnit) (rest : List ℕ) → prefix_len (is_byte_of true) (duration_unit_text unit ++ rest) ≡ 0
duration_unit_stops time.Nanosecond rest = refl
duration_unit_stops time.Microsecond rest = refl
duration_unit_stops time.Millisecond rest = refl
duration_unit_stops time.Second rest = refl
duration_unit_stops time.Minute rest = refl
duration_unit_stops time.Hour rest = refl

duration_unit_bytes : (unit : DurationUnit) → list_all (is_byte_of false) (duration_unit_text unit) ≡ true
duration_unit_bytes time.Nanosecond = refl
duration_unit_bytes time.Microsecond = refl
duration_unit_bytes time.Millisecond = refl
duration_unit_bytes time.Second = refl
duration_unit_bytes time.Minute = refl
duration_unit_bytes time.Hour = refl

duration_unit_again : (unit : DurationUnit) → duration_unit (duration_unit_text unit) ≡ Some unit
duration_unit_again time.Nanosecond = refl
duration_unit_again time.Microsecond = refl
duration_unit_again time.Millisecond = refl
duration_unit_again time.Second = refl
duration_unit_again time.Minute = refl
duration_unit_again time.Hour = refl

-- a part is read from its text, and what follows it is left
part_again : (part : DurationPart) (rest : List ℕ) → is_decimal part.number ≡ true → prefix_len (is_byte_of false) rest ≡ 0 → part_at (part_text part ++ rest) ≡ Some (part, rest)
part_again part rest h stop =
    let number = decimal_text part.number in
    let unit = duration_unit_text part.unit in
    let read = λ (front : List ℕ × List ℕ). option_map (λ p. (p, (front_of false front.1).1)) (part_of (decimal_of 15 front.0) (duration_unit (front_of false front.1).0)) in
    ap part_at (append_assoc number unit rest)
    ∙ ap read (front_again true number (unit ++ rest) (decimal_bytes part.number h).bytes (duration_unit_stops part.unit rest))
    ∙ ap (λ (front : List ℕ × List ℕ). option_map (λ p. (p, front.1)) (part_of (decimal_of 15 number) (duration_unit front.0))) (front_again false unit rest (duration_unit_bytes part.unit) stop)
    ∙ ap (λ d. option_map (λ p. (p, rest)) (part_of d (duration_unit unit))) (decimal_again part.number h)
    ∙ ap (λ u. option_map (λ p. (p, rest)) (part_of (Some part.number) u)) (duration_unit_again part.unit)

then_more : (read : List ℕ → Option (List DurationPart)) (part : DurationPart) (b : ℕ) (bytes rest : List ℕ) → rest ≡ b ∷ bytes → part_then read (part, rest) ≡ option_map (λ others. part ∷ others) (read rest)
then_more read part b bytes rest is = subst (λ t. part_then read (part, t) ≡ option_map (λ others. part ∷ others) (read t)) (sym is) refl

parts_again : (most : ℕ) (part : DurationPart) (others : List DurationPart) → length others < most → list_all (λ p. is_decimal p.number) (part ∷ others) ≡ true → parts_of most (flat_map part_text (part ∷ others)) ≡ Some (part ∷ others)
parts_again zero part others few h = absurd (omega (arith, few))
parts_again (suc most) part [] few h =
    ap (option_and_then (part_then (parts_of most))) (part_again part [] (and_parts (is_decimal part.number) true h).0 refl)
parts_again (suc most) part (other ∷ others) few h =
    let proper = and_parts (is_decimal part.number) (list_all (λ p. is_decimal p.number) (other ∷ others)) h in
    let rest = flat_map part_text (other ∷ others) in
    let bytes = decimal_bytes other.number (and_parts (is_decimal other.number) (list_all (λ p. is_decimal p.number) others) proper.1).0 in
    let following = (bytes.others ++ duration_unit_text other.unit) ++ flat_map part_text others in
    let is : rest ≡ bytes.first ∷ following = ap (λ t. (t ++ duration_unit_text other.unit) ++ flat_map part_text others) bytes.is in
    let stop : prefix_len (is_byte_of false) rest ≡ 0 = ap (prefix_len (is_byte_of false)) is ∙ ap (λ t. cond (not (t || bytes.first == 46)) (1 + prefix_len (is_byte_of false) following) 0) bytes.digit in
    ap (option_and_then (part_then (parts_of most))) (part_again part rest proper.0 stop)
    ∙ then_more (parts_of most) part bytes.first following rest is
    ∙ ap (option_map (λ ps. part ∷ ps)) (parts_again most other others (omega (arith, few)) proper.1)

-- a duration is read from its canonical text
pub duration_again : (parts : List DurationPart) → is_duration parts ≡ true → duration_of (duration_text parts) ≡ Some parts
unfolding duration_of
duration_again [] h = absurd (true≢false (sym h))
duration_again (part ∷ others) h =
    let following = (and_parts (nat_lt 0 (length (part ∷ others))) (nat_le (length (part ∷ others)) 8 && list_all (λ p. is_decimal p.number) (part ∷ others)) h).1 in
    let both = and_parts (nat_le (length (part ∷ others)) 8) (list_all (λ p. is_decimal p.number) (part ∷ others)) following in
    let few : length (part ∷ others) ≤ 8 = leb-true _ _ both.0 in
    parts_again 8 part others (omega (arith, few)) both.1

-- a size's canonical text is no duration
pub size_no_duration : (size : Size) → is_size size ≡ true → duration_of (size_text size) ≡ None
unfolding duration_of
size_no_duration size h =
    ap (λ (front : List ℕ × List ℕ). option_and_then (part_then (parts_of 7)) (option_map (λ p. (p, (front_of false front.1).1)) (part_of (decimal_of 15 front.0) (duration_unit (front_of false front.1).0)))) (front_again true (decimal_text size.number) (size_unit_text size.unit) (decimal_bytes size.number h).bytes (size_unit_stops size.unit))
    ∙ by_unit (decimal_of 15 (decimal_text size.number)) size.unit
  where
    by_unit : (number : Option DecimalForm) (unit : SizeUnit) → option_and_then (part_then (parts_of 7)) (option_map (λ p. (p, (front_of false (size_unit_text unit)).1)) (part_of number (duration_unit (front_of false (size_unit_text unit)).0))) ≡ None
    by_unit None unit = refl
    by_unit (Some number) sizes.Byte = refl
    by_unit (Some number) sizes.Kilobyte = refl
    by_unit (Some number) sizes.Kibibyte = refl
    by_unit (Some number) sizes.Megabyte = refl
    by_unit (Some number) sizes.Mebibyte = refl
    by_unit (Some number) sizes.Gigabyte = refl
    by_unit (Some number) sizes.Gibibyte = refl

part_proper : (text : List ℕ) (part : DurationPart) (rest : List ℕ) → part_at text ≡ Some (part, rest) → is_decimal part.number ≡ true
part_proper text part rest h =
    by_parts (decimal_of 15 (front_of true text).0) (duration_unit (front_of false (front_of true text).1).0) refl h
  where
    by_parts : (number : Option DecimalForm) (unit : Option DurationUnit) → decimal_of 15 (front_of true text).0 ≡ number → option_map {U = DurationPart × List ℕ} (λ p. (p, (front_of false (front_of true text).1).1)) (part_of number unit) ≡ Some (part, rest) → is_decimal part.number ≡ true
    by_parts None unit read h = cc
    by_parts (Some number) None read h = cc
    by_parts (Some number) (Some unit) read h =
        let pairs : ◌≡◌ {A = DurationPart × List ℕ} (record { number = number; unit = unit }, (front_of false (front_of true text).1).1) (part, rest) = cc in
        let is : number ≡ part.number = ap (λ p. p.0.number) pairs in
        subst (λ d. is_decimal d ≡ true) is (decimal_proper (front_of true text).0 number read)

-- what was read is 1 to `most` parts of decimals
record Read (most : ℕ) (parts : List DurationPart) : Type 0 where
  pub some : 0 < length parts
  pub few : length parts ≤ most
  pub proper : list_all (λ p. is_decimal p.number) parts ≡ true

one_more : (most : ℕ) → ((text : List ℕ) (parts : List DurationPart) → parts_of most text ≡ Some parts → Read most parts) → (text : List ℕ) (parts : List DurationPart) → parts_of (suc most) text ≡ Some parts → Read (suc most) parts
one_more most reads text parts h = by_part (part_at text) refl h
  where
    by_others : (part : DurationPart) → is_decimal part.number ≡ true → (rest : List ℕ) (r : Option (List DurationPart)) → parts_of most rest ≡ r → option_map (λ others. part ∷ others) r ≡ Some parts → Read (suc most) parts
    by_others part proper rest None read h = cc
    by_others part proper rest (Some others) read h =
        let is : part ∷ others ≡ parts = cc in
        let below = reads rest others read in
        let few = below.few in
        subst (Read (suc most)) is (record { some = omega arith; few = omega (arith, few); proper = and_from (is_decimal part.number) _ proper below.proper })

    by_rest : (part : DurationPart) (rest : List ℕ) → is_decimal part.number ≡ true → part_then (parts_of most) (part, rest) ≡ Some parts → Read (suc most) parts
    by_rest part [] proper h =
        let is : part ∷ [] ≡ parts = cc in
        subst (Read (suc most)) is (record { some = omega arith; few = omega arith; proper = and_from (is_decimal part.number) true proper refl })
    by_rest part (b ∷ bytes) proper h = by_others part proper (b ∷ bytes) (parts_of most (b ∷ bytes)) refl h

    by_part : (r : Option (DurationPart × List ℕ)) → part_at text ≡ r → option_and_then (part_then (parts_of most)) r ≡ Some parts → Read (suc most) parts
    by_part None read h = cc
    by_part (Some x) read h = by_rest x.0 x.1 (part_proper text x.0 x.1 read) h

parts_read : (most : ℕ) (text : List ℕ) (parts : List DurationPart) → parts_of most text ≡ Some parts → Read most parts
parts_read zero text parts h = cc
parts_read (suc most) text parts h = one_more most (parts_read most) text parts h

-- a duration that was read keeps to the limits
pub duration_proper : (text : List ℕ) (parts : List DurationPart) → duration_of text ≡ Some parts → is_duration parts ≡ true
unfolding duration_of
duration_proper text parts h =
    let read = parts_read 8 text parts h in
    and_from (nat_lt 0 (length parts)) _ (lt-ltb _ _ read.some) (and_from (nat_le (length parts) 8) _ (le-leb _ _ read.few) read.proper)
