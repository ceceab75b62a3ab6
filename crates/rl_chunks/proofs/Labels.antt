-- Labels that were read one after the other are those of a stream, and those of a stream can be read.
use Rattle.std.proofs.Common.{◌≡◌, ℕ, ◌+◌, ◌^◌, ◌<◌, ◌≤◌, ◌==◌, nat_lt, Bool, true, false, not, ◌||◌, cond, List, [], ◌∷◌, ◌++◌, length, map, Option, Some, None, Ok, Err, refl, sym, ap, subst, ◌∙◌, arith}
use Rattle.std.specs.Prelude.{IsTrue, nat_le}
use Rattle.std.specs.List.{All, AllByRecursion, list_all, list_any, join_with_byte}
use Rattle.std.specs.Ordering.{is_lt}
use Rattle.std.specs.declared.cmp.Ordering.{Ordering}
use Rattle.std.specs.declared.cmp.Ordering.TheVariants.{Less, Equal, Greater}
use Rattle.std.specs.FinMap.Entries.{is_sorted, below_all}
use Rattle.std.proofs.lemmas.Bool.{and_parts, and_from, true≢false, le-ltb, ltb-false, le-leb, leb-true, eqb-true, false_from_ne_true}
use Rattle.std.proofs.lemmas.Cmp.{tied_itself}
use Rattle.std.proofs.lemmas.List.{length-append}
use Rattle.std.proofs.lemmas.List.Sums.{sum_by-cons}
use Rattle.std.proofs.lemmas.List.Elements.{recursion_from_All, All-from_recursion}
use Rattle.rl_plain.specs.Escapes.{Escapes, escape}
use Rattle.rl_plain.specs.laws.Bools.{true_from}
use Rattle.rl_labels.specs.EntryParts.{is_stream, are_stream_labels, has_no_label}
use Rattle.rl_labels.specs.LabelSet.{Pair, LabelSet, is_empty, is_label, labels_of, label_set_of, same_labels, labels_are_proper}
use Rattle.rl_labels.specs.LabelText.{label_escapes, value_text, label_text, labels_text, canonical_text}
use Rattle.rl_labels.specs.Name.{name_cmp, is_name, is_text, is_stream_name}
use Rattle.rl_labels.specs.Pairs.{names_are_good, times_named, has_same_name, longest_text, labels_from}
use Rattle.rl_labels.specs.laws.LabelLaws.{labels_of-label_set_of, name_cmp_total, same_text, other_texts}
use Rattle.rl_labels.specs.declared.labels.LabelsFault.TheVariants.{BadName, SameName, TooLong}
use Rattle.rl_chunks.specs.ChunkText.{IsText}
use Rattle.rl_chunks.specs.ChunkReading.{in_chunk}
use Rattle.rl_chunks.proofs.Items.{Chain, IsGood, IsNextLabel}

-- ---- names that rise

less : (o : Ordering) → is_lt o ≡ true → o ≡ Less
less Less e = refl
less Equal e = absurd (true≢false (sym e))
less Greater e = absurd (true≢false (sym e))

-- a name below another is not it
apart : (x y : List ℕ) → is_lt (name_cmp x y) ≡ true → is_text y x ≡ false
apart x y below = other_texts y x (λ same. true≢false (sym below ∙ ap (λ z. is_lt (name_cmp x z)) same ∙ ap is_lt (tied_itself name_cmp_total x)))

below_more_names : (x y : List ℕ) (es : List Pair) → is_lt (name_cmp x y) ≡ true → below_all name_cmp y es ≡ true → below_all name_cmp x es ≡ true
below_more_names x y [] below h = refl
below_more_names x y (e ∷ es) below h =
    let parts = and_parts (is_lt (name_cmp y e.0)) (below_all name_cmp y es) h in
    and_from _ _ (ap is_lt (name_cmp_total.trans x y e.0 (less _ below) (less _ parts.0))) (below_more_names x y es below parts.1)

-- in order, no name stands twice
times-cons : (q : List ℕ) (e : Pair) (es : List Pair) → times_named q (e ∷ es) ≡ cond (is_text e.0 q) 1 0 + times_named q es
times-cons q e es = sum_by-cons (λ pair. cond (is_text pair.0 q) 1 0) e es

times_zero : (x : List ℕ) (es : List Pair) → below_all name_cmp x es ≡ true → times_named x es ≡ 0
times_zero x [] h = refl
times_zero x (e ∷ es) h =
    let parts = and_parts (is_lt (name_cmp x e.0)) (below_all name_cmp x es) h in
    let rest = times_zero x es parts.1 in
    let first : is_text e.0 x ≡ false = apart x e.0 parts.0 in
    times-cons x e es ∙ ap (λ b. cond b 1 0 + times_named x es) first ∙ omega (arith, rest)

once_in_order : (es : List Pair) → is_sorted name_cmp es ≡ true → (q : List ℕ) → times_named q es ≤ 1
once_in_order [] h q = omega arith
once_in_order (e ∷ es) h q =
    let parts = and_parts (below_all name_cmp e.0 es) (is_sorted name_cmp es) h in
    rw (times-cons q e es) (elim (is_text e.0 q) as (λ b. is_text e.0 q ≡ b → cond b 1 0 + times_named q es ≤ 1) [
      | true ↦ λ same. let none : times_named q es ≡ 0 = subst (λ n. times_named n es ≡ 0) (same_text e.0 q same) (times_zero e.0 es parts.0) in omega (arith, none)
      | false ↦ λ _. omega (arith, once_in_order es parts.1 q)
    ] refl)

none_twice : (all es : List Pair) → ((q : List ℕ) → times_named q all ≤ 1) → list_any (λ pair. nat_lt 1 (times_named pair.0 all)) es ≡ false
none_twice all [] once = refl
none_twice all (e ∷ es) once = ap (λ b. b || list_any (λ pair. nat_lt 1 (times_named pair.0 all)) es) (le-ltb 1 (times_named e.0 all) (once e.0)) ∙ none_twice all es once

-- ---- what a chain of labels is

-- labels as a set has them, each of which is UTF-8
pub record AreGood (pairs : List Pair) : Type 0 where
  pub sorted : is_sorted name_cmp pairs ≡ true
  pub labels : list_all is_label pairs ≡ true
  pub names : names_are_good pairs ≡ true
  pub texts : AllByRecursion IsText pairs

sorted_after : (p : Pair) (pairs : List Pair) → Chain IsNextLabel (Some p) pairs → (below_all name_cmp p.0 pairs ≡ true) × (is_sorted name_cmp pairs ≡ true)
sorted_after p [] h = (refl, refl)
sorted_after p (q ∷ qs) h =
    let rest = sorted_after q qs h.1 in
    (and_from _ _ h.0.above (below_more_names p.0 q.0 qs h.0.above rest.0), and_from _ _ rest.0 rest.1)

name_of_stream : (name : List ℕ) → is_stream_name name ≡ true → is_name name ≡ true
name_of_stream name h = (and_parts (is_name name) _ h).0

good_all : (before : Option Pair) (pairs : List Pair) → Chain IsNextLabel before pairs → (list_all is_label pairs ≡ true) × (names_are_good pairs ≡ true) × AllByRecursion IsText pairs
good_all before [] h = (refl, refl, tt)
good_all before (p ∷ ps) h =
    let rest = good_all (Some p) ps h.1 in
    let good = h.0.good in
    (and_from _ _ (and_from (is_name p.0) (not (is_empty p.1)) (name_of_stream p.0 good.named) (ap not good.full)) rest.0, and_from _ _ good.named rest.1, ((good.name.utf8, good.value.utf8), rest.2))

pub good_from_chain : (pairs : List Pair) → Chain IsNextLabel None pairs → AreGood pairs
good_from_chain [] h = record { sorted = refl; labels = refl; names = refl; texts = tt }
good_from_chain (p ∷ ps) h =
    let parts = sorted_after p ps h.1 in
    let good = good_all None (p ∷ ps) h in
    record { sorted = and_from _ _ parts.0 parts.1; labels = good.0; names = good.1; texts = good.2 }

chain_after : (p : Pair) (pairs : List Pair) → below_all name_cmp p.0 pairs ≡ true → is_sorted name_cmp pairs ≡ true → AllByRecursion IsGood pairs → Chain IsNextLabel (Some p) pairs
chain_after p [] below sorted good = tt
chain_after p (q ∷ qs) below sorted good =
    let first = and_parts (is_lt (name_cmp p.0 q.0)) (below_all name_cmp p.0 qs) below in
    let rest = and_parts (below_all name_cmp q.0 qs) (is_sorted name_cmp qs) sorted in
    (record { good = good.0; above = first.0 }, chain_after q qs rest.0 rest.1 good.1)

chain_from_good : (pairs : List Pair) → is_sorted name_cmp pairs ≡ true → AllByRecursion IsGood pairs → Chain IsNextLabel None pairs
chain_from_good [] sorted good = tt
chain_from_good (p ∷ ps) sorted good =
    let parts = and_parts (below_all name_cmp p.0 ps) (is_sorted name_cmp ps) sorted in
    (record { good = good.0; above = refl }, chain_after p ps parts.0 parts.1 good.1)

-- ---- lengths

escape_full : (table : Escapes) (byte : ℕ) → 1 ≤ length (escape table byte)
escape_full [] byte = omega arith
escape_full (entry ∷ table) byte =
    let rest = escape_full table byte in
    elim (byte == entry.0) as (λ b. 1 ≤ length (cond b (92 ∷ entry.1 ∷ []) (escape table byte))) [ true ↦ omega arith | false ↦ rest ]

escaped_longer : (text : List ℕ) → length text ≤ length (value_text text)
escaped_longer [] = omega arith
escaped_longer (byte ∷ text) = omega (arith, escaped_longer text, escape_full label_escapes byte, length-append (escape label_escapes byte) (value_text text))

label_longer : (pair : Pair) → length pair.0 + length pair.1 + 4 ≤ length (label_text pair) + 1
label_longer pair =
    let front = pair.0 ++ 61 ∷ 34 ∷ [] in
    let name : length front ≡ length pair.0 + 2 = length-append pair.0 (61 ∷ 34 ∷ []) in
    let value : length (front ++ value_text pair.1) ≡ length front + length (value_text pair.1) = length-append front (value_text pair.1) in
    let whole : length (label_text pair) ≡ length (front ++ value_text pair.1) + 1 = length-append (front ++ value_text pair.1) (34 ∷ []) in
    omega (arith, name, value, whole, escaped_longer pair.1)

abbrev joined : List Pair → List ℕ
joined pairs = join_with_byte 44 (map label_text pairs)

joined_longer : (p q : Pair) (ps : List Pair) → length (joined (p ∷ q ∷ ps)) ≡ length (label_text p) + (length (joined (q ∷ ps)) + 1)
joined_longer p q ps = length-append (label_text p) (44 ∷ joined (q ∷ ps)) ∙ omega arith

as_many : (pairs : List Pair) → length pairs ≤ length (joined pairs)
as_many [] = omega arith
as_many (p ∷ []) = omega (arith, label_longer p)
as_many (p ∷ q ∷ ps) = omega (arith, joined_longer p q ps, as_many (q ∷ ps))

abbrev IsWithin : ℕ → Pair → Type 0
IsWithin limit pair = length pair.0 + length pair.1 ≤ limit

each_within : (limit : ℕ) (pairs : List Pair) → length (joined pairs) ≤ limit → AllByRecursion (IsWithin limit) pairs
each_within limit [] h = tt
each_within limit (p ∷ []) h = (omega (arith, label_longer p), tt)
each_within limit (p ∷ q ∷ ps) h = (omega (arith, joined_longer p q ps, label_longer p), each_within limit (q ∷ ps) (omega (arith, joined_longer p q ps)))

text_joined : (pairs : List Pair) → length (joined pairs) ≤ length (labels_text pairs)
text_joined pairs =
    let front : length (123 ∷ joined pairs) ≡ length (joined pairs) + 1 = omega arith in
    let whole : length (labels_text pairs) ≡ length (123 ∷ joined pairs) + 1 = length-append (123 ∷ joined pairs) (125 ∷ []) in
    omega (arith, front, whole)

-- ---- the labels of a stream

-- what is known of a stream's labels
pub record OfStream (labels : LabelSet) : Type 0 where
  pub names : names_are_good (labels_of labels) ≡ true
  pub text : length (labels_text (labels_of labels)) ≤ longest_text
  pub some : has_no_label labels ≡ false

pub of_stream : (labels : LabelSet) → IsTrue (is_stream labels) → OfStream labels
unfolding canonical_text
of_stream labels h =
    let both = and_parts (are_stream_labels labels) (not (has_no_label labels)) h in
    let parts = and_parts (names_are_good (labels_of labels)) (nat_le (length (canonical_text labels)) longest_text) both.0 in
    record { names = parts.0; text = leb-true _ _ parts.1; some = un_not (has_no_label labels) both.1 }
  where
    un_not : (b : Bool) → not b ≡ true → b ≡ false
    un_not true h = sym h
    un_not false h = refl

pub stream_from : (labels : LabelSet) → OfStream labels → IsTrue (is_stream labels)
unfolding canonical_text
stream_from labels of = and_from (are_stream_labels labels) _ (and_from (names_are_good (labels_of labels)) _ of.names (le-leb _ _ of.text)) (ap not of.some)

pub proper : (labels : LabelSet) → (is_sorted name_cmp (labels_of labels) ≡ true) × (list_all is_label (labels_of labels) ≡ true)
proper labels = and_parts (is_sorted name_cmp (labels_of labels)) (list_all is_label (labels_of labels)) (true_from _ (labels_are_proper labels))

pub few_labels : (labels : LabelSet) → OfStream labels → length (labels_of labels) < 2 ^ 16
few_labels labels of = let text = of.text in omega (arith, as_many (labels_of labels), text_joined (labels_of labels))

pub short_labels : (labels : LabelSet) → OfStream labels → AllByRecursion (IsWithin 4096) (labels_of labels)
short_labels labels of = let text = of.text in each_within 4096 (labels_of labels) (omega (arith, text_joined (labels_of labels)))

within_each : (pairs : List Pair) → AllByRecursion (IsWithin 4096) pairs → AllByRecursion (λ pair. length pair.0 < 2 ^ 16) pairs × AllByRecursion (λ pair. length pair.1 < 2 ^ 16) pairs
within_each [] h = (tt, tt)
within_each (p ∷ ps) h = let rest = within_each ps h.1 in let within = h.0 in ((omega arith, rest.0), (omega arith, rest.1))

pub short_names : (labels : LabelSet) → OfStream labels → All (λ pair. length pair.0 < 2 ^ 16) (labels_of labels)
short_names labels of = All-from_recursion (λ (pair : Pair). length pair.0 < 2 ^ 16) (labels_of labels) (within_each (labels_of labels) (short_labels labels of)).0

pub short_values : (labels : LabelSet) → OfStream labels → All (λ pair. length pair.1 < 2 ^ 16) (labels_of labels)
short_values labels of = All-from_recursion (λ (pair : Pair). length pair.1 < 2 ^ 16) (labels_of labels) (within_each (labels_of labels) (short_labels labels of)).1

good_each : (pairs : List Pair) → list_all is_label pairs ≡ true → names_are_good pairs ≡ true → AllByRecursion (IsWithin 4096) pairs → AllByRecursion IsText pairs → AllByRecursion IsGood pairs
good_each [] labels names short texts = tt
good_each (p ∷ ps) labels names short texts =
    let label = and_parts (is_label p) (list_all is_label ps) labels in
    let name = and_parts (is_stream_name p.0) (names_are_good ps) names in
    let within = short.0 in (
      record {
        name = record { short = omega arith; utf8 = texts.0.0 };
        value = record { short = omega arith; utf8 = texts.0.1 };
        named = name.0;
        full = un_not (is_empty p.1) (and_parts (is_name p.0) (not (is_empty p.1)) label.0).1;
      },
      good_each ps label.1 name.1 short.1 texts.1,
    )
  where
    un_not : (b : Bool) → not b ≡ true → b ≡ false
    un_not true h = sym h
    un_not false h = refl

-- the labels of a stream are a chain
pub chain_of_stream : (labels : LabelSet) → OfStream labels → All IsText (labels_of labels) → Chain IsNextLabel None (labels_of labels)
chain_of_stream labels of texts =
    chain_from_good (labels_of labels) (proper labels).0 (good_each (labels_of labels) (proper labels).1 of.names (short_labels labels of) (recursion_from_All IsText (labels_of labels) texts))

-- and are read as their set
pub stream_again : (labels : LabelSet) → OfStream labels → in_chunk (labels_from (labels_of labels)) ≡ Ok labels
unfolding labels_from canonical_text
stream_again labels of =
    let pairs = labels_of labels in
    let own : labels_of (label_set_of pairs) ≡ pairs = labels_of-label_set_of pairs (and_from (is_sorted name_cmp pairs) (list_all is_label pairs) (proper labels).0 (proper labels).1) in
    let once : has_same_name pairs ≡ false = none_twice pairs pairs (once_in_order pairs (proper labels).0) in
    let short : nat_lt longest_text (length (labels_text (labels_of (label_set_of pairs)))) ≡ false = ap (λ ps. nat_lt longest_text (length (labels_text ps))) own ∙ le-ltb _ _ of.text in
    ap (λ b. in_chunk (cond (not b) (Err BadName) (cond (has_same_name pairs) (Err SameName) (cond (nat_lt longest_text (length (canonical_text (label_set_of pairs)))) (Err TooLong) (Ok (label_set_of pairs)))))) of.names
    ∙ ap (λ b. in_chunk (cond b (Err SameName) (cond (nat_lt longest_text (length (canonical_text (label_set_of pairs)))) (Err TooLong) (Ok (label_set_of pairs))))) once
    ∙ ap (λ b. in_chunk (cond b (Err TooLong) (Ok (label_set_of pairs)))) short
    ∙ ap (λ set. Ok set) (same_labels (label_set_of pairs) labels own)

-- the set of labels that were read
pub record IsSetOf (pairs : List Pair) (labels : LabelSet) : Type 0 where
  pub is : labels ≡ label_set_of pairs
  pub short : nat_lt longest_text (length (canonical_text (label_set_of pairs))) ≡ false

pub set_from : (pairs : List Pair) (labels : LabelSet) → in_chunk (labels_from pairs) ≡ Ok labels → IsSetOf pairs labels
unfolding labels_from
set_from pairs labels e = let found = by_tests (names_are_good pairs) (has_same_name pairs) (nat_lt longest_text (length (canonical_text (label_set_of pairs)))) e in record { is = found.0; short = found.1 }
  where
    by_tests : (good same long : Bool) → in_chunk (cond (not good) (Err BadName) (cond same (Err SameName) (cond long (Err TooLong) (Ok (label_set_of pairs))))) ≡ Ok labels → (labels ≡ label_set_of pairs) × (long ≡ false)
    by_tests false same long e = absurd cc
    by_tests true true long e = absurd cc
    by_tests true false true e = absurd cc
    by_tests true false false e = (cc, refl)

pub stream_of_chain : (pairs : List Pair) (labels : LabelSet) → Chain IsNextLabel None pairs → 0 < length pairs → in_chunk (labels_from pairs) ≡ Ok labels → (labels_of labels ≡ pairs) × OfStream labels
unfolding canonical_text
stream_of_chain pairs labels chain some e =
    let good = good_from_chain pairs chain in
    let made = set_from pairs labels e in
    let own : labels_of labels ≡ pairs = ap labels_of made.is ∙ labels_of-label_set_of pairs (and_from (is_sorted name_cmp pairs) (list_all is_label pairs) good.sorted good.labels) in
    let text : length (labels_text (labels_of labels)) ≤ longest_text = ltb-false longest_text _ (ap (λ set. nat_lt longest_text (length (labels_text (labels_of set)))) made.is ∙ made.short) in
    (own, record { names = ap names_are_good own ∙ good.names; text = text; some = ap (λ ps. length ps == 0) own ∙ full pairs some })
  where
    full : (ps : List Pair) → 0 < length ps → (length ps == 0) ≡ false
    full [] h = absurd (omega arith)
    full (p ∷ ps) h = false_from_ne_true (length (p ∷ ps) == 0) (λ e. let none = eqb-true _ _ e in absurd (omega arith))
