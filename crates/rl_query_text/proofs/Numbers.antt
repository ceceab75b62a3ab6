-- The numbers of topk and of thresholds, as they are read, and again from their canonical texts.
use Rattle.std.proofs.Common.{◌≡◌, ℕ, ◌+◌, ◌==◌, ◌^◌, ◌<◌, ◌≤◌, nat_lt, nat_le, ◌&&◌, true, cond, not, List, [], ◌∷◌, ◌++◌, length, take, drop, Option, Some, None, refl, sym, ap, subst, ◌∙◌, arith, append-nil}
use Rattle.std.specs.Char.{is_ascii_digit}
use Rattle.std.specs.Fmt.{decimal}
use Rattle.std.specs.List.{list_all, prefix_len}
use Rattle.std.specs.Option.{option_map, option_and_then}
use Rattle.std.specs.Str.Parse.{digits_value}
use Rattle.std.proofs.lemmas.Bool.{and_parts, and_from, cond-true, cond_both, le-leb, lt-ltb, leb-true, ltb-true, ltb-false, false_from_ne_true, cond-false}
use Rattle.std.proofs.lemmas.Bool.Decides.{nat_tests}
use Rattle.std.proofs.lemmas.Fmt.{length-decimal-le}
use Rattle.std.proofs.lemmas.List.Folds.{length-prefix_len, prefix_len-append}
use Rattle.std.proofs.lemmas.List.Sums.{prefix_len-le-length, prefix_len_stops, AllPass-from_list_all}
use Rattle.std.proofs.lemmas.Option.{cond_some}
use Rattle.rl_labels.specs.Decimals.{DecimalForm, is_row, number_of, cut_at_point, decimal_of_parts, decimal_of}
use Rattle.rl_labels.specs.QuantityTexts.{decimal_text, digits_text, is_decimal}
use Rattle.rl_labels.specs.laws.QuantityLaws.{row-below, decimal_proper, decimal_again}
use Rattle.rl_query.specs.Aggregations.{is_top, is_threshold, threshold_of, top_of}
use Rattle.rl_selector_text.proofs.QuantityTokens.{IsNumber, whole, whole_proper, whole_then}

-- what stands in front of the point
abbrev front : List ℕ → Option (List ℕ × List ℕ) → List ℕ
front text None = text
front text (Some parts) = parts.0

abbrev front_len : List ℕ → ℕ
front_len text = prefix_len (λ b. not (b == 46)) text

front_short : (text : List ℕ) → length (front text (cut_at_point text)) ≤ front_len text
front_short text =
    cond_both (nat_lt (front_len text) (length text)) (Some (front_len text)) None (λ offset. length (front text (option_map (λ n. (take n text, drop (n + 1) text)) offset)) ≤ front_len text)
    (λ _. omega (arith, length-prefix_len (λ b. not (b == 46)) text)) (λ above. ltb-false (front_len text) (length text) above)

-- a row of few digits reads alike where more are let through
number_alike : (text : List ℕ) → length text ≤ 9 → number_of 9 text ≡ number_of 15 text
number_alike text few =
    ap (λ b. cond (nat_lt 0 (length text) && (b && list_all is_ascii_digit text)) (Some (digits_value 10 text)) None) (le-leb (length text) 9 few ∙ sym (le-leb (length text) 15 (omega (arith, few))))

parts_alike : (text : List ℕ) (parts : Option (List ℕ × List ℕ)) → length (front text parts) ≤ 9 → decimal_of_parts 9 text parts ≡ decimal_of_parts 15 text parts
parts_alike text None few = rw (number_alike text few) refl
parts_alike text (Some parts) few = rw (number_alike parts.0 few) refl

decimal_alike : (text : List ℕ) → front_len text ≤ 9 → decimal_of 9 text ≡ decimal_of 15 text
decimal_alike text few = parts_alike text (cut_at_point text) (omega (arith, few, front_short text))

stops_at : (digits following : List ℕ) → front_len following ≡ 0 → front_len (digits ++ following) ≤ length digits
stops_at digits following none = grind (arith, nat_tests, prefix_len-append (λ b. not (b == 46)) digits following, prefix_len-le-length (λ b. not (b == 46)) digits)

whole_short : (d : DecimalForm) → d.whole < 10 ^ 9 → front_len (decimal_text d) ≤ 9
whole_short d below =
    let few = length-decimal-le 9 d.whole (omega arith) below (omega (arith, below)) in
    let none = cond_both (d.digits == 0) [] (46 ∷ digits_text d.digits d.fraction) (λ following. front_len following ≡ 0) (λ _. refl) (λ _. refl) in
    omega (arith, few, stops_at (decimal d.whole) (cond (d.digits == 0) [] (46 ∷ digits_text d.digits d.fraction)) none)

-- a threshold is read from its canonical text
pub threshold_again : (d : DecimalForm) → is_threshold d ≡ true → threshold_of (decimal_text d) ≡ Some d
threshold_again d h =
    let parts = and_parts (is_decimal d) _ h in
    let following = and_parts (nat_lt d.whole (10 ^ 9)) _ parts.1 in
    ap (option_and_then (λ value. cond (nat_le value.digits 6) (Some value) None)) (decimal_alike (decimal_text d) (whole_short d (ltb-true _ _ following.0)) ∙ decimal_again d parts.0)
    ∙ cond-true (nat_le d.digits 6) _ _ following.1

top_proper : (k : ℕ) → is_top k ≡ true → k < 10 ^ 15
top_proper k h = let most = leb-true k 65535 (and_parts (nat_le 1 k) (nat_le k 65535) h).1 in omega (arith, most)

pub top_number : (k : ℕ) → is_top k ≡ true → IsNumber (decimal k)
top_number k h = subst IsNumber (append-nil (decimal k)) (whole_then k [] (top_proper k h) refl)

-- and so is the number of samples that topk keeps
pub top_again : (k : ℕ) → is_top k ≡ true → top_of (decimal k) ≡ Some k
top_again k h = subst (λ text. top_of text ≡ Some k) (append-nil (decimal k))
    (ap (option_and_then (λ value. cond (value.digits == 0 && is_top value.whole) (Some value.whole) None)) (decimal_again (whole k) (whole_proper k (top_proper k h))) ∙ cond-true (is_top k) _ _ h)

-- digits alone have no point
no_cut : (text : List ℕ) → list_all is_ascii_digit text ≡ true → cut_at_point text ≡ None
no_cut text are = ap (option_map (λ offset. (take offset text, drop (offset + 1) text))) (cond-false (nat_lt (front_len text) (length text)) _ _ (false_from_ne_true _ (λ inside.
    let stop = prefix_len_stops (λ b. not (b == 46)) text 0 (ltb-true _ _ inside) in
    let digit = AllPass-from_list_all is_ascii_digit text are (front_len text) 0 (ltb-true _ _ inside) in
    grind (arith, nat_tests))))

-- what was read as a row of digits
row_few : (most n : ℕ) (text : List ℕ) → number_of most text ≡ Some n → (length text ≤ most) × (n < 10 ^ most)
row_few most n text h =
    let read = cond_some (is_row most text) (digits_value 10 text) n h in
    grind (arith, nat_tests, row-below text most)

-- what was read in front of the point
whole_read : (most : ℕ) (text : List ℕ) (parts : Option (List ℕ × List ℕ)) (d : DecimalForm) → decimal_of_parts most text parts ≡ Some d → number_of most (front text parts) ≡ Some d.whole
whole_read most text None d = elim (number_of most text) as (λ r. option_map whole r ≡ Some d → r ≡ Some d.whole) [ None ↦ λ h. cc | Some n ↦ λ h. cc ]
whole_read most text (Some parts) d =
    elim (number_of most parts.0) as (λ r. option_and_then (λ whole. option_map (λ fraction. record { whole = whole; fraction = fraction; digits = length parts.1 }) (number_of 9 parts.1)) r ≡ Some d → r ≡ Some d.whole) [
      | None ↦ λ h. cc
      | Some n ↦ elim (number_of 9 parts.1) as (λ s. option_map (λ fraction. record { whole = n; fraction = fraction; digits = length parts.1 }) s ≡ Some d → Some n ≡ Some d.whole) [ None ↦ λ h. cc | Some m ↦ λ h. cc ]
    ]

-- a decimal with few digits is a threshold
pub threshold_proper : (text : List ℕ) (d : DecimalForm) → decimal_of 9 text ≡ Some d → nat_le d.digits 6 ≡ true → is_threshold d ≡ true
threshold_proper text d read few =
    let row = row_few 9 d.whole (front text (cut_at_point text)) (whole_read 9 text (cut_at_point text) d read) in
    and_from (is_decimal d) _ (decimal_proper text d (sym (parts_alike text (cut_at_point text) row.0) ∙ read)) (and_from (nat_lt d.whole (10 ^ 9)) _ (lt-ltb d.whole (10 ^ 9) row.1) few)

-- a row of digits is the number of samples that topk keeps
pub top_read : (text : List ℕ) (n : ℕ) → number_of 15 text ≡ Some n → 1 ≤ n → n ≤ 65535 → top_of text ≡ Some n
top_read text n read some few =
    let row = and_parts (nat_lt 0 (length text)) _ (cond_some (is_row 15 text) (digits_value 10 text) n read).0 in
    let top = λ (value : DecimalForm). cond (value.digits == 0 && is_top value.whole) (Some value.whole) None in
    ap (λ parts. option_and_then top (decimal_of_parts 15 text parts)) (no_cut text (and_parts (nat_le (length text) 15) _ row.1).1)
    ∙ ap (λ r. option_and_then top (option_map whole r)) read
    ∙ cond-true (is_top n) _ _ (and_from (nat_le 1 n) (nat_le n 65535) (le-leb 1 n some) (le-leb n 65535 few))
