-- The canonical text of a label set is read as that set.
use Rattle.std.proofs.Common.{◌≡◌, ℕ, zero, suc, ◌+◌, ◌==◌, ◌<◌, ltb, Bool, true, false, not, cond, List, [], ◌∷◌, ◌++◌, length, map, drop, Some, None, Ok, refl, sym, ap, subst, ◌∙◌, append_assoc, length-append, arith}
use Rattle.std.specs.Prelude.{codes}
use Rattle.std.specs.List.{AllByRecursion, join_with_byte, list_all, position_or_len}
use Rattle.std.specs.Ordering.{is_lt, is_eq}
use Rattle.std.specs.declared.cmp.Ordering.{Ordering}
use Rattle.std.specs.declared.cmp.Ordering.TheVariants.{Less, Equal, Greater}
use Rattle.std.specs.FinMap.Entries.{below_all, find, is_sorted}
use Rattle.std.proofs.lemmas.Bool.{and_parts, and_from, eqb-true, false_from_ne_true, lt-ltb, true≢false}
use Rattle.std.proofs.lemmas.List.{take_at}
use Rattle.rl_plain.specs.Escapes.{escape}
use Rattle.rl_plain.specs.laws.Bools.{true_from}
use Rattle.rl_labels.specs.LabelSet.{LabelSet, Pair, is_empty, is_label, label, label_set_of, labels_are_proper, labels_of, same_labels}
use Rattle.rl_labels.specs.LabelText.{canonical_text, label_escapes, label_text, labels_text, value_text}
use Rattle.rl_labels.specs.Name.{is_name, is_name_byte, is_name_start, is_text, name_cmp}
use Rattle.rl_labels.specs.laws.LabelLaws.{are_named-labels, given-labels, label-label_set_of, labels_of-label_set_of}
use Rattle.rl_segments.specs.LabelReading.{labels_in, name_in, pair_in, pair_then, pairs_in, set_of, value_in, with_byte}
use Rattle.rl_segments.specs.Records.{IsTextual}
use Rattle.rl_segments.proofs.Labels.{plain_value}

-- ---- names

abbrev is_equals : ℕ → Bool
is_equals byte = byte == 61

not_equals : (byte : ℕ) → is_name_byte byte ≡ true → is_equals byte ≡ false
not_equals byte h = false_from_ne_true (byte == 61) (λ e. true≢false (sym h ∙ ap is_name_byte (eqb-true byte 61 e)))

start_of_name : (byte : ℕ) → is_name_start byte ≡ true → is_name_byte byte ≡ true
start_of_name byte h = rw h refl

-- no byte of a name is an equals sign
up_to : (name rest : List ℕ) → list_all is_name_byte name ≡ true → position_or_len is_equals (name ++ 61 ∷ rest) ≡ length name
up_to [] rest h = refl
up_to (byte ∷ name) rest h =
    let parts = and_parts (is_name_byte byte) (list_all is_name_byte name) h in
    ap (λ b. cond (not b) (1 + position_or_len is_equals (name ++ 61 ∷ rest)) 0) (not_equals byte parts.0) ∙ omega (arith, up_to name rest parts.1)

all_of_name : (name : List ℕ) → is_name name ≡ true → list_all is_name_byte name ≡ true
all_of_name [] h = refl
all_of_name (byte ∷ name) h =
    let parts = and_parts (is_name_start byte) (list_all is_name_byte name) h in
    and_from (is_name_byte byte) _ (start_of_name byte parts.0) parts.1

past : (front rest : List ℕ) (byte : ℕ) → drop (suc (length front)) (front ++ byte ∷ rest) ≡ rest
past [] rest byte = refl
past (x ∷ front) rest byte = past front rest byte

name_again : (name rest : List ℕ) → is_name name ≡ true → name_in (name ++ 61 ∷ rest) ≡ Ok (name, rest)
unfolding name_in
name_again name rest h =
    let there = up_to name rest (all_of_name name h) in
    let within : ltb (length name) (length (name ++ 61 ∷ rest)) ≡ true = lt-ltb _ _ (omega (arith, length-append name (61 ∷ rest))) in
    rw (there, within, take_at name (61 ∷ rest) (length name) refl, past name rest 61) refl

-- ---- values

one_again : (byte : ℕ) (rest : List ℕ) → value_in (escape label_escapes byte ++ rest) ≡ with_byte byte (value_in rest)
unfolding value_in
one_again byte rest = by_tests (byte == 92) (byte == 34) (byte == 10) refl refl refl
  where
    by_tests : (slash quote line : Bool) → byte == 92 ≡ slash → byte == 34 ≡ quote → byte == 10 ≡ line → value_in (escape label_escapes byte ++ rest) ≡ with_byte byte (value_in rest)
    by_tests true quote line a b c = subst (λ byte. value_in (escape label_escapes byte ++ rest) ≡ with_byte byte (value_in rest)) (sym (eqb-true byte 92 a)) refl
    by_tests false true line a b c = subst (λ byte. value_in (escape label_escapes byte ++ rest) ≡ with_byte byte (value_in rest)) (sym (eqb-true byte 34 b)) refl
    by_tests false false true a b c = subst (λ byte. value_in (escape label_escapes byte ++ rest) ≡ with_byte byte (value_in rest)) (sym (eqb-true byte 10 c)) refl
    by_tests false false false a b c = rw (a, b, c) (plain_value rest byte b a)

quote_ends : (rest : List ℕ) → value_in (34 ∷ rest) ≡ Ok ([], rest)
unfolding value_in
quote_ends [] = refl
quote_ends (next ∷ rest) = refl

value_again : (value rest : List ℕ) → value_in (value_text value ++ 34 ∷ rest) ≡ Ok (value, rest)
value_again [] rest = quote_ends rest
value_again (byte ∷ value) rest =
    ap value_in (append_assoc (escape label_escapes byte) (value_text value) (34 ∷ rest))
    ∙ one_again byte (value_text value ++ 34 ∷ rest)
    ∙ ap (with_byte byte) (value_again value rest)

-- ---- labels

spelt : (pair : Pair) (rest : List ℕ) → label_text pair ++ rest ≡ pair.0 ++ 61 ∷ 34 ∷ (value_text pair.1 ++ 34 ∷ rest)
spelt pair rest =
    append_assoc ((pair.0 ++ codes "=\"") ++ value_text pair.1) (codes "\"") rest
    ∙ append_assoc (pair.0 ++ codes "=\"") (value_text pair.1) (34 ∷ rest)
    ∙ append_assoc pair.0 (codes "=\"") (value_text pair.1 ++ 34 ∷ rest)

pair_again : (pair : Pair) (rest : List ℕ) → is_label pair ≡ true → IsTextual pair → pair_in (label_text pair ++ rest) ≡ Ok (pair, rest)
unfolding pair_in
pair_again pair rest h texts =
    let parts = and_parts (is_name pair.0) (not (is_empty pair.1)) h in
    ap pair_in (spelt pair rest)
    ∙ rw (name_again pair.0 (34 ∷ (value_text pair.1 ++ 34 ∷ rest)) parts.0, value_again pair.1 rest, texts.0, texts.1) refl

-- labels after a comma each, and the brace that ends them
pub others_text : List Pair → List ℕ
others_text [] = codes "}"
others_text (pair ∷ pairs) = 44 ∷ (label_text pair ++ others_text pairs)

pub pairs_again : (pair : Pair) (pairs : List Pair) (most : ℕ) → length pairs < most → list_all is_label (pair ∷ pairs) ≡ true → AllByRecursion IsTextual (pair ∷ pairs) → pairs_in most (label_text pair ++ others_text pairs) ≡ Ok (pair ∷ pairs)
unfolding pairs_in pair_then others_text
pairs_again pair pairs zero few h texts = absurd (omega (arith, few))
pairs_again pair [] (suc n) few h texts =
    let parts = and_parts (is_label pair) true h in
    rw (pair_again pair (codes "}") parts.0 texts.0) refl
pairs_again pair (next ∷ pairs) (suc n) few h texts =
    let parts = and_parts (is_label pair) (list_all is_label (next ∷ pairs)) h in
    rw (pair_again pair (44 ∷ (label_text next ++ others_text pairs)) parts.0 texts.0, pairs_again next pairs n (omega (arith, few)) parts.1 texts.1) refl

pub joined : (pair : Pair) (pairs : List Pair) → join_with_byte 44 (map label_text (pair ∷ pairs)) ++ codes "}" ≡ label_text pair ++ others_text pairs
unfolding others_text
joined pair [] = refl
joined pair (next ∷ pairs) = append_assoc (label_text pair) (44 ∷ join_with_byte 44 (map label_text (next ∷ pairs))) (codes "}") ∙ ap (λ (rest : List ℕ). label_text pair ++ 44 ∷ rest) (joined next pairs)

pub few_others : (pairs : List Pair) → length pairs < length (others_text pairs)
unfolding others_text
few_others [] = omega arith
few_others (pair ∷ pairs) = omega (arith, few_others pairs, length-append (label_text pair) (others_text pairs))

-- ---- sets

-- a key that is before all others is none of them
pub not_before : {K X : Type 0} (R : K → K → Ordering) (key : K) (es : List (K × X)) → below_all R key es ≡ true → find R key es ≡ None
not_before R key [] h = refl
not_before R key (e ∷ es) h =
    let parts = and_parts (is_lt (R key e.0)) (below_all R key es) h in
    ap (λ b. cond b (Some e.1) (find R key es)) (apart (R key e.0) parts.0) ∙ not_before R key es parts.1
  where
    apart : (order : Ordering) → is_lt order ≡ true → is_eq order ≡ false
    apart Less e = refl
    apart Equal e = absurd (true≢false (sym e))
    apart Greater e = absurd (true≢false (sym e))

set_again : (pairs : List Pair) → is_sorted name_cmp pairs ≡ true → list_all is_label pairs ≡ true → set_of pairs ≡ Ok (label_set_of pairs)
unfolding set_of
set_again [] sorted labels = refl
set_again (pair ∷ pairs) sorted labels =
    let order = and_parts (below_all name_cmp pair.0 pairs) (is_sorted name_cmp pairs) sorted in
    let parts = and_parts (is_label pair) (list_all is_label pairs) labels in
    let none : label (label_set_of pairs) pair.0 ≡ None = label-label_set_of pairs pair.0 (are_named-labels pairs parts.1) ∙ given-labels pairs pair.0 parts.1 ∙ not_before name_cmp pair.0 pairs order.0 in
    rw (set_again pairs order.1 parts.1, parts.0, none) refl

not_brace : (name tail : List ℕ) → is_name name ≡ true → is_text (name ++ tail) (codes "}") ≡ false
not_brace [] tail h = absurd (true≢false (sym h))
not_brace (byte ∷ name) tail h =
    let parts = and_parts (is_name_start byte) (list_all is_name_byte name) h in
    rw (false_from_ne_true (byte == 125) (λ e. true≢false (sym parts.0 ∙ ap is_name_start (eqb-true byte 125 e)))) refl

no_brace : (pair : Pair) (others : List ℕ) → is_name pair.0 ≡ true → is_text (label_text pair ++ others) (codes "}") ≡ false
no_brace pair others h = ap (λ (text : List ℕ). is_text text (codes "}")) (spelt pair others) ∙ not_brace pair.0 _ h

text_again : (pairs : List Pair) → is_sorted name_cmp pairs ≡ true → list_all is_label pairs ≡ true → AllByRecursion IsTextual pairs → labels_in (labels_text pairs) ≡ Ok (label_set_of pairs)
unfolding labels_in
text_again [] sorted labels texts = set_again [] sorted labels
text_again (pair ∷ pairs) sorted labels texts =
    let rest = label_text pair ++ others_text pairs in
    let label = and_parts (is_label pair) (list_all is_label pairs) labels in
    let name = and_parts (is_name pair.0) (not (is_empty pair.1)) label.0 in
    ap (λ (rest : List ℕ). labels_in (123 ∷ rest)) (joined pair pairs)
    ∙ rw (no_brace pair (others_text pairs) name.0, pairs_again pair pairs (length rest) (omega (arith, few_others pairs, length-append (label_text pair) (others_text pairs))) labels texts) (set_again (pair ∷ pairs) sorted labels)

-- a set whose labels are UTF-8 is read from its text
pub labels_again : (set : LabelSet) → AllByRecursion IsTextual (labels_of set) → labels_in (canonical_text set) ≡ Ok set
unfolding canonical_text
labels_again set texts =
    let pairs = labels_of set in
    let proper = and_parts (is_sorted name_cmp pairs) (list_all is_label pairs) (true_from _ (labels_are_proper set)) in
    let own : labels_of (label_set_of pairs) ≡ pairs = labels_of-label_set_of pairs (and_from (is_sorted name_cmp pairs) (list_all is_label pairs) proper.0 proper.1) in
    text_again pairs proper.0 proper.1 texts ∙ ap (λ (set : LabelSet). Ok set) (same_labels (label_set_of pairs) set own)
