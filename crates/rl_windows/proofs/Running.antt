-- Spans of a tree of lines: what a range of stamps has, the lines that come due one by one, and different timestamps.
use Rattle.std.proofs.Common.{◌≡◌, ℕ, ◌+◌, ◌-◌, ◌<◌, ◌≤◌, nat_eq, nat_le, nat_lt, Bool, true, false, cond, not, ◌&&◌, ◌||◌, List, [], ◌∷◌, ◌++◌, map, length, Option, None, Some, refl, sym, ap, subst, ◌∙◌, append_assoc, append-nil, add-zero, zero-add, arith}
use Rattle.std.specs.Prelude.{IfSome}
use Rattle.std.specs.BTreeMap.Range.{range_contains}
use Rattle.std.specs.List.{filter, list_any, AllByRecursion, sum_by}
use Rattle.std.specs.List.Sorted.{IsStrictlySortedBy}
use Rattle.std.specs.Map.{keys_of}
use Rattle.std.specs.Option.{option_cmp}
use Rattle.std.specs.Ordering.{eq_by_cmp, nat_cmp, ordering_then, is_le, is_lt}
use Rattle.std.specs.Set.{distinct_count, unique_keys}
use Rattle.std.specs.declared.cmp.Ordering.TheVariants.{Less, Equal, Greater}
use Rattle.std.specs.declared.ops.Bound.TheVariants.{Excluded, Included}
use Rattle.std.specs.FinMap.{entries, get, get-entries}
use Rattle.std.specs.FinMap.Entries.{find, is_sorted, below_all}
use Rattle.std.proofs.lemmas.Bool.{and_parts, eqb-false, le-leb, le-ltb, leb-true, leb-false, lt-leb, lt-ltb, ltb-true, ltb-false, ne_eqb, true≢false}
use Rattle.std.proofs.lemmas.Cmp.{ranked}
use Rattle.std.proofs.lemmas.Map.Keys.{sorted_tail}
use Rattle.rl_plain.specs.laws.TreeMaps.{entries-of_tree}
use Rattle.std.proofs.lemmas.List.{length-append, length-map, length_push}
use Rattle.std.proofs.lemmas.List.Sums.{sum_by-append, sum_by-cons}
use Rattle.rl_labels.specs.LabelSet.{LabelSet}
use Rattle.rl_labels.specs.LabelText.{label_set_cmp}
use Rattle.rl_aggregate.specs.Partials.{partial_of, most_entries, Fits}
use Rattle.rl_aggregate.specs.Runs.{with_volume, IsOneLess, IsOneMore}
use Rattle.rl_aggregate.specs.TotalsMap.{plus}
use Rattle.rl_aggregate.specs.laws.Runs.{partial_of-more}
use Rattle.rl_aggregate.specs.laws.Within.{within-fits}
use Rattle.rl_aggregate.specs.declared.volume.Volume.{Volume}
use Rattle.rl_aggregate.specs.declared.partial.Partial.{Partial}
use Rattle.rl_windows.specs.Buckets.{buckets_in, stamp_cmp, BucketsMap, Lines, volume_of, AreAlike, AreShort, IsShort}
use Rattle.rl_windows.specs.Windows.{run_of, partial_in, count_of, is_between, is_due, moments, one_if_new, HaveEntered, IsSumOf}
use Rattle.rl_windows.specs.laws.Alike.{all-filter, count-filter, first_in, have-lines, short-entries, partial-alike, runs-lines, short-filter, volume_of-filter, within-lines, HaveLines}
use Rattle.rl_windows.specs.laws.Stamps.{stamp_cmp_total, stamp_cmp-IsAntisymmetric}
use Rattle.rl_windows.specs.declared.element.Stamp.{Stamp}

head_is : (x y : Stamp × Volume) (xs ys : Lines) → x ∷ xs ≡ y ∷ ys → x ≡ y
head_is x y xs ys is = ap (λ (ls : Lines). elim ls as (λ _. Stamp × Volume) [ [] ↦ x | z ∷ zs ↦ z ]) is

tail_is : (x y : Stamp × Volume) (xs ys : Lines) → x ∷ xs ≡ y ∷ ys → xs ≡ ys
tail_is x y xs ys is = ap (λ (ls : Lines). elim ls as (λ _. Lines) [ [] ↦ xs | z ∷ zs ↦ zs ]) is

-- TESTS OF NUMBERS

opposite : (n m : ℕ) → not (nat_le n m) ≡ nat_lt m n
opposite n m = elim (nat_le n m) as (λ b. nat_le n m ≡ b → not b ≡ nat_lt m n) [
  | true ↦ λ is. sym (le-ltb m n (leb-true n m is))
  | false ↦ λ is. sym (lt-ltb m n (leb-false n m is))
] refl

-- WHAT A RANGE HAS

-- stamps with no label set stand before the others of their timestamp
from_first : (n m : ℕ) (o : Option LabelSet) → is_le (ordering_then (nat_cmp n m) (option_cmp label_set_cmp None o)) ≡ nat_le n m
from_first n m o = elim (nat_cmp n m) as (λ r. r ≡ nat_cmp n m → is_le (ordering_then r (option_cmp label_set_cmp None o)) ≡ nat_le n m) [
  | Less ↦ λ is. sym (le-leb n m (let lt : n < m = ranked n m Less is in omega (arith, lt)))
  | Equal ↦ λ is. none_first o ∙ sym (le-leb n m (let same : n ≡ m = ranked n m Equal is in omega (arith, same)))
  | Greater ↦ λ is. sym (lt-leb n m (ranked n m Greater is))
] refl
  where
    none_first : (o : Option LabelSet) → is_le (option_cmp label_set_cmp None o) ≡ true
    none_first None = refl
    none_first (Some l) = refl

in_range_is : (low high : ℕ) (s : Stamp) → range_contains stamp_cmp (Included (record { timestamp = low; labels = None })) (Excluded (record { timestamp = high; labels = None })) s ≡ is_between low high s
in_range_is low high s = λ i. from_first low s.timestamp s.labels i && (ap not (from_first high s.timestamp s.labels) ∙ opposite high s.timestamp) i

pub between_is : (low high : ℕ) (es : Lines) → filter (λ e. range_contains stamp_cmp (Included (record { timestamp = low; labels = None })) (Excluded (record { timestamp = high; labels = None })) e.0) es ≡ filter (λ line. is_between low high line.0) es
between_is low high es = λ i. filter (λ (e : Stamp × Volume). in_range_is low high e.0 i) es

-- LINES THAT COME DUE

module _ (number : Volume → ℕ) (p q r test : Stamp → Bool) (each : (s : Stamp) (n : ℕ) → cond (p s && test s) n 0 + cond (q s && test s) n 0 ≡ cond (r s && test s) n 0) where
  number-parts : (es : Lines) → sum_by (λ l. cond (p l.0 && test l.0) (number l.1) 0) es + sum_by (λ l. cond (q l.0 && test l.0) (number l.1) 0) es ≡ sum_by (λ l. cond (r l.0 && test l.0) (number l.1) 0) es
  number-parts [] = refl
  number-parts (e ∷ es) = omega (
    arith,
    sum_by-cons (λ l. cond (p l.0 && test l.0) (number l.1) 0) e es,
    sum_by-cons (λ l. cond (q l.0 && test l.0) (number l.1) 0) e es,
    sum_by-cons (λ l. cond (r l.0 && test l.0) (number l.1) 0) e es,
    each e.0 (number e.1),
    number-parts es,
  )

volume_of-append : (test : Stamp → Bool) (xs ys : Lines) → volume_of test (xs ++ ys) ≡ plus (volume_of test xs) (volume_of test ys)
volume_of-append test xs ys = λ i. record {
  count = sum_by-append (λ (l : Stamp × Volume). cond (test l.0) l.1.count 0) xs ys i;
  bytes = sum_by-append (λ (l : Stamp × Volume). cond (test l.0) l.1.bytes 0) xs ys i;
}

lt-le : (n m : ℕ) → nat_lt n (m + 1) ≡ nat_le n m
lt-le n m = elim (nat_le n m) as (λ b. nat_le n m ≡ b → nat_lt n (m + 1) ≡ b) [
  | true ↦ λ is. lt-ltb n (m + 1) (omega (arith, leb-true n m is))
  | false ↦ λ is. le-ltb n (m + 1) (omega (arith, leb-false n m is))
] refl

-- what came due after one moment and by another, and what was due at the first, is what is due at the second
due_parts : (from to ts : ℕ) → from ≤ to → (b : Bool) (n : ℕ) → cond ((nat_le (from + 1) ts && nat_lt ts (to + 1)) && b) n 0 + cond (nat_le ts from && b) n 0 ≡ cond (nat_le ts to && b) n 0
due_parts from to ts later b n = elim (nat_le ts from) as (λ d. nat_le ts from ≡ d → cond ((nat_le (from + 1) ts && nat_lt ts (to + 1)) && b) n 0 + cond (d && b) n 0 ≡ cond (nat_le ts to && b) n 0) [
  | true ↦ λ is.
      let early = leb-true ts from is in
      (λ i. cond ((lt-leb (from + 1) ts (omega (arith, early)) i && nat_lt ts (to + 1)) && b) n 0 + cond b n 0)
      ∙ zero-add (cond b n 0)
      ∙ (λ i. cond (sym (le-leb ts to (omega (arith, early, later))) i && b) n 0)
  | false ↦ λ is.
      let late = leb-false ts from is in
      (λ i. cond ((le-leb (from + 1) ts (omega (arith, late)) i && nat_lt ts (to + 1)) && b) n 0 + 0)
      ∙ add-zero (cond (nat_lt ts (to + 1) && b) n 0)
      ∙ (λ i. cond (lt-le ts to i && b) n 0)
] refl

abbrev pub span : (from to : ℕ) → Lines → Lines
span from to es = filter (λ line. is_between (from + 1) (to + 1) line.0) es

abbrev pub due_at : (moment : ℕ) → Lines → Lines
due_at moment es = filter (λ line. is_due moment line.0) es

alike_due : (from to : ℕ) → from ≤ to → (es : Lines) → AreAlike (span from to es ++ due_at from es) (due_at to es)
alike_due from to later es test =
    let each = λ (s : Stamp) (n : ℕ). due_parts from to s.timestamp later (test s) n in
    let parts = λ (number : Volume → ℕ). number-parts number (is_between (from + 1) (to + 1)) (is_due from) (is_due to) test each es in
    volume_of-append test (span from to es) (due_at from es)
    ∙ (λ i. plus (volume_of-filter (is_between (from + 1) (to + 1)) test es i) (volume_of-filter (is_due from) test es i))
    ∙ (λ i. record { count = parts (λ v. v.count) i; bytes = parts (λ v. v.bytes) i })
    ∙ sym (volume_of-filter (is_due to) test es)

moved : (f : Stamp × Volume → ℕ) (e : Stamp × Volume) (xs ys : Lines) → sum_by f (e ∷ xs ++ ys) ≡ sum_by f ((xs ++ e ∷ []) ++ ys)
moved f e xs ys = omega (arith, sum_by-cons f e (xs ++ ys), sum_by-append f xs ys, sum_by-append f (xs ++ e ∷ []) ys, sum_by-append f xs (e ∷ []), sum_by-cons f e [])

alike_moved : (e : Stamp × Volume) (xs ys : Lines) → AreAlike (e ∷ xs ++ ys) ((xs ++ e ∷ []) ++ ys)
alike_moved e xs ys test = λ i. record { count = moved (λ l. cond (test l.0) l.1.count 0) e xs ys i; bytes = moved (λ l. cond (test l.0) l.1.bytes 0) e xs ys i }

short_both : (xs ys : Lines) → AreShort xs → AreShort ys → AreShort (xs ++ ys)
short_both [] ys short others = others
short_both (x ∷ xs) ys short others = (short.0, short_both xs ys short.1 others)

short_first : (xs ys : Lines) → AreShort (xs ++ ys) → AreShort xs
short_first [] ys short = tt
short_first (x ∷ xs) ys short = (short.0, short_first xs ys short.1)

short_rest : (xs ys : Lines) → AreShort (xs ++ ys) → AreShort ys
short_rest [] ys short = short
short_rest (x ∷ xs) ys short = short_rest xs ys short.1

-- the first of some lines have come to others, so many, and the rest are still to come
abbrev pub AreEntering : ℕ → Lines → Lines → Lines → Partial → Type 0
AreEntering n lines others rest found = (first : Lines) × (first ++ rest ≡ lines) × (length first ≡ n) × (found ≡ partial_of (map run_of (first ++ others)))

pub entering_none : (lines others rest : Lines) (found : Partial) → rest ≡ lines → found ≡ partial_of (map run_of others) → AreEntering 0 lines others rest found
entering_none lines others rest found all sum = ([], all, refl, sum)

module _ (n : ℕ) (from to : ℕ) (es : Lines) (short : AreShort es) (e : Stamp × Volume) (more : Lines) (found : Partial) (h : AreEntering n (span from to es) (due_at from es) (e ∷ more) found) where
  abbrev come : Lines
  come = h.0

  abbrev due : Lines
  due = due_at from es

  all_short : AreShort (come ++ e ∷ more)
  all_short = subst AreShort (sym h.1) (short-filter (is_between (from + 1) (to + 1)) es short)

  next_short : AreShort (e ∷ come ++ due)
  next_short = ((short_rest come (e ∷ more) all_short).0, short_both come due (short_first come (e ∷ more) all_short) (short-filter (is_due from) es short))

  -- a line more
  pub entering_more : (after : Partial) → IsOneMore (run_of e) found after → AreEntering (n + 1) (span from to es) due more after
  entering_more after one = (
    come ++ e ∷ [],
    append_assoc come (e ∷ []) more ∙ h.1,
    length_push come e ∙ ap (λ k. k + 1) h.2,
    one (map run_of (come ++ due)) h.3
        ∙ partial-alike (e ∷ come ++ due) ((come ++ e ∷ []) ++ due) (have-lines (e ∷ come ++ due) next_short) (have-lines ((come ++ e ∷ []) ++ due) (short_both (come ++ e ∷ []) due (short_both come (e ∷ []) (short_first come (e ∷ more) all_short) ((short_rest come (e ∷ more) all_short).0, tt)) (short-filter (is_due from) es short))) (alike_moved e come due),
  )

  -- fits
  pub entering_fits : from ≤ to → (volume_of (λ _. true) es).count ≤ most_entries → Fits (with_volume e.0.labels e.1 found)
  entering_fits later few =
      let count : Stamp × Volume → ℕ = λ l. cond true l.1.count 0 in
      let all : Lines = e ∷ come ++ due in
      let bound : (volume_of (λ _. true) all).count ≤ most_entries = omega (
        arith,
        few,
        sum_by-cons count e (come ++ due),
        sum_by-append count come due,
        sum_by-append count come (e ∷ more),
        sum_by-cons count e more,
        ap (sum_by count) h.1,
        sum_by-append count (span from to es) due,
        ap (λ (v : Volume). v.count) (alike_due from to later es (λ _. true)),
        count-filter (is_due to) es,
      ) in
      subst Fits (sym (ap (with_volume e.0.labels e.1) h.3 ∙ sym (partial_of-more (run_of e) (map run_of (come ++ due))))) (within-fits _ _ (within-lines all next_short) bound)

-- all have entered
pub entered_all : (n from to : ℕ) → from ≤ to → (es : Lines) (rest : Lines) (found : Partial) → AreShort es → rest ≡ [] → AreEntering n (span from to es) (due_at from es) rest found → found ≡ partial_in (is_due to) es
entered_all n from to later es rest found short none h =
    let all : h.0 ≡ span from to es = sym (append-nil h.0) ∙ ap (λ r. h.0 ++ r) (sym none) ∙ h.1 in
    h.3
    ∙ ap (λ ls. partial_of (map run_of (ls ++ due_at from es))) all
    ∙ partial-alike (span from to es ++ due_at from es) (due_at to es) (have-lines (span from to es ++ due_at from es) (short_both (span from to es) (due_at from es) (short-filter (is_between (from + 1) (to + 1)) es short) (short-filter (is_due from) es short))) (have-lines (due_at to es) (short-filter (is_due to) es short)) (alike_due from to later es)

-- TAKEN BACK

-- of some lines that have come to others the first are left, so many
abbrev pub AreLeft : ℕ → Lines → Lines → Partial → Type 0
AreLeft n others rest found = (first : Lines) × (after : Lines) × (first ++ after ≡ rest) × (length first ≡ n) × (found ≡ partial_of (map run_of (first ++ others)))

pub left_start : (n : ℕ) (lines others rest : Lines) (found : Partial) → rest ≡ lines → HaveEntered n lines others found → AreLeft n others rest found
left_start n lines others rest found all h = (h.0, h.1, h.2 ∙ sym all, h.3, h.4)

-- none is left
pub left_none : (n : ℕ) (others rest : Lines) (found : Partial) → n ≡ 0 → AreLeft n others rest found → found ≡ partial_of (map run_of others)
left_none n others rest found none h = at h.0 h.3 h.4
  where
    at : (first : Lines) → length first ≡ n → found ≡ partial_of (map run_of (first ++ others)) → found ≡ partial_of (map run_of others)
    at [] is sum = sum
    at (e ∷ first) is sum = absurd (omega (arith, is, none))

pub left_end : (n : ℕ) (others rest : Lines) (found : Partial) → rest ≡ [] → AreLeft n others rest found → found ≡ partial_of (map run_of others)
left_end n others rest found none h = at h.0 (h.2 ∙ none) h.4
  where
    at : (first : Lines) → first ++ h.1 ≡ [] → found ≡ partial_of (map run_of (first ++ others)) → found ≡ partial_of (map run_of others)
    at [] is sum = sum
    at (e ∷ first) is sum = absurd (omega (arith, ap (λ (ls : Lines). length ls) is))

-- one goes
pub left_less : (n : ℕ) (others rest more : Lines) (e : Stamp × Volume) (found after : Partial) → HaveLines rest → HaveLines others → (n ≡ 0 → ⊥) → rest ≡ e ∷ more → AreLeft n others rest found → IsOneLess (run_of e) found after → AreLeft (n - 1) others more after
left_less n others rest more e found after have have_others some front h less = at h.0 (h.2 ∙ front) h.3 h.4
  where
    have_more : HaveLines more
    have_more = (subst HaveLines front have).1

    first_lines : (xs ys : Lines) → HaveLines (xs ++ ys) → HaveLines ys → HaveLines others → HaveLines (xs ++ others)
    first_lines [] ys all tail have_others = have_others
    first_lines (x ∷ xs) ys all tail have_others = (all.0, first_lines xs ys all.1 tail have_others)

    tail_lines : (xs ys : Lines) → HaveLines (xs ++ ys) → HaveLines ys
    tail_lines [] ys all = all
    tail_lines (x ∷ xs) ys all = tail_lines xs ys all.1

    at : (first : Lines) → first ++ h.1 ≡ e ∷ more → length first ≡ n → found ≡ partial_of (map run_of (first ++ others)) → AreLeft (n - 1) others more after
    at [] is count sum = absurd (some (sym count))
    at (x ∷ first) is count sum =
        let head : x ≡ e = head_is x e (first ++ h.1) more is in
        let tail : first ++ h.1 ≡ more = tail_is x e (first ++ h.1) more is in
        let counted : length first ≡ n - 1 = omega (arith, count) in (
          first,
          h.1,
          tail,
          counted,
          less (map run_of (first ++ others)) (runs-lines _ (first_lines first h.1 (subst HaveLines (sym tail) have_more) (tail_lines first h.1 (subst HaveLines (sym tail) have_more)) have_others)) (sum ∙ ap (λ y. partial_of (run_of y ∷ map run_of (first ++ others))) head),
        )

-- DIFFERENT TIMESTAMPS

abbrev pub times : Lines → List ℕ
times lines = map (λ line. line.0.timestamp) lines

-- how often a timestamp is not the one before
abbrev pub changes : Option ℕ → List ℕ → ℕ
changes last [] = 0
changes last (t ∷ ts) = one_if_new last t + changes (Some t) ts

abbrev Rise : List ℕ → Type 0
Rise [] = Unit {0}
Rise (t ∷ ts) = AllByRecursion (λ u. t ≤ u) ts × Rise ts

not_among : (t u : ℕ) (ts : List ℕ) → t < u → AllByRecursion (λ v. u ≤ v) ts → list_any (nat_eq t) ts ≡ false
not_among t u [] lt all = refl
not_among t u (v ∷ ts) lt all = (λ i. ne_eqb t v (λ same. let le = all.0 in omega (arith, same, lt, le)) i || list_any (nat_eq t) ts) ∙ not_among t u ts lt all.1

-- where they rise, that is how many are different
different : (t : ℕ) (ts : List ℕ) → Rise (t ∷ ts) → distinct_count nat_eq (t ∷ ts) ≡ 1 + changes (Some t) ts
different t [] rise = refl
different t (u ∷ us) rise =
    let later = different u us rise.1 in
    elim (nat_eq t u) as (λ b. nat_eq t u ≡ b → length (cond (b || list_any (nat_eq t) us) (unique_keys nat_eq (u ∷ us)) (t ∷ unique_keys nat_eq (u ∷ us))) ≡ 1 + (cond b 0 1 + changes (Some u) us)) [
      | true ↦ λ _. omega (arith, later)
      | false ↦ λ is.
          let apart = eqb-false t u is in
          let lt : t < u = apart_lt t u rise.0.0 apart in
          ap (λ b. length (cond b (unique_keys nat_eq (u ∷ us)) (t ∷ unique_keys nat_eq (u ∷ us)))) (not_among t u us lt rise.1.0) ∙ omega (arith, later)
    ] refl
  where
    apart_lt : (t u : ℕ) → t ≤ u → (t ≡ u → ⊥) → t < u
    apart_lt t u le apart = elim (nat_lt t u) as (λ b. nat_lt t u ≡ b → t < u) [
      | true ↦ λ is. ltb-true t u is
      | false ↦ λ is. absurd (apart (omega (arith, le, ltb-false t u is)))
    ] refl

pub moments_are : (ts : List ℕ) → Rise ts → changes None ts ≡ distinct_count nat_eq ts
moments_are [] rise = refl
moments_are (t ∷ ts) rise = sym (different t ts rise)

-- stamps in order have times in order
time_le : (a b : Stamp) → is_lt (stamp_cmp a b) ≡ true → a.timestamp ≤ b.timestamp
time_le a b = elim (nat_cmp a.timestamp b.timestamp) as (λ r. r ≡ nat_cmp a.timestamp b.timestamp → is_lt (ordering_then r (option_cmp label_set_cmp a.labels b.labels)) ≡ true → a.timestamp ≤ b.timestamp) [
  | Less ↦ λ is _. let lt : a.timestamp < b.timestamp = ranked a.timestamp b.timestamp Less is in omega (arith, lt)
  | Equal ↦ λ is _. let same : a.timestamp ≡ b.timestamp = ranked a.timestamp b.timestamp Equal is in omega (arith, same)
  | Greater ↦ λ _ h. absurd (true≢false (sym h))
] refl

below_times : (k : Stamp) (p : Stamp → Bool) (es : Lines) → below_all stamp_cmp k es ≡ true → AllByRecursion (λ u. k.timestamp ≤ u) (times (filter (λ line. p line.0) es))
below_times k p [] below = tt
below_times k p (e ∷ es) below =
    let parts = and_parts (is_lt (stamp_cmp k e.0)) (below_all stamp_cmp k es) below in
    let kept = filter (λ (line : Stamp × Volume). p line.0) es in
    let rest = below_times k p es parts.1 in
    elim (p e.0) as (λ b. AllByRecursion (λ u. k.timestamp ≤ u) (times (cond b (e ∷ kept) kept))) [ true ↦ (time_le k e.0 parts.0, rest) | false ↦ rest ]

pub times_rise : (p : Stamp → Bool) (es : Lines) → is_sorted stamp_cmp es ≡ true → Rise (times (filter (λ line. p line.0) es))
times_rise p [] sorted = tt
times_rise p (e ∷ es) sorted =
    let parts = and_parts (below_all stamp_cmp e.0 es) (is_sorted stamp_cmp es) sorted in
    let kept = filter (λ (line : Stamp × Volume). p line.0) es in
    let rest = times_rise p es parts.1 in
    elim (p e.0) as (λ b. Rise (times (cond b (e ∷ kept) kept))) [ true ↦ (below_times e.0 p es parts.0, rest) | false ↦ rest ]

pub changes-le : (last : Option ℕ) (ts : List ℕ) → changes last ts ≤ length ts
changes-le last [] = omega arith
changes-le last (t ∷ ts) = omega (arith, one last t, changes-le (Some t) ts)
  where
    either : (b : Bool) → cond b 0 1 ≤ 1
    either true = omega arith
    either false = omega arith

    one : (last : Option ℕ) (t : ℕ) → one_if_new last t ≤ 1
    one None t = omega arith
    one (Some l) t = either (nat_eq l t)

pub moments-le : (p : Stamp → Bool) (es : Lines) → is_sorted stamp_cmp es ≡ true → moments (filter (λ line. p line.0) es) ≤ length (filter (λ line. p line.0) es)
moments-le p es sorted =
    let kept = filter (λ (line : Stamp × Volume). p line.0) es in
    omega (arith, moments_are (times kept) (times_rise p es sorted), changes-le None (times kept), length-map kept (λ line. line.0.timestamp))

pub entering_few : (n : ℕ) (lines others rest : Lines) (found : Partial) → AreEntering n lines others rest found → n ≤ length lines
entering_few n lines others rest found h = omega (arith, h.2, ap (λ (ls : Lines). length ls) h.1, length-append h.0 rest)

-- LINES THAT LEAVE

later_all : (high : ℕ) (k : Stamp) (es : Lines) → below_all stamp_cmp k es ≡ true → high ≤ k.timestamp → AllByRecursion (λ line. high ≤ line.0.timestamp) es
later_all high k [] below late = tt
later_all high k (e ∷ es) below late =
    let parts = and_parts (is_lt (stamp_cmp k e.0)) (below_all stamp_cmp k es) below in (
      omega (arith, late, time_le k e.0 parts.0),
      later_all high k es parts.1 late,
    )

-- where the first is late, all are
pub late_all : (high : ℕ) (es : Lines) (k : Stamp) (ks : List Stamp) → is_sorted stamp_cmp es ≡ true → keys_of es ≡ k ∷ ks → high ≤ k.timestamp → AllByRecursion (λ line. high ≤ line.0.timestamp) es
late_all high [] k ks sorted front late = tt
late_all high (e ∷ es) k ks sorted front late =
    let parts = and_parts (below_all stamp_cmp e.0 es) (is_sorted stamp_cmp es) sorted in
    let head : e.0 ≡ k = ap (λ (xs : List Stamp). elim xs as (λ _. Stamp) [ [] ↦ k | z ∷ zs ↦ z ]) front in
    let first : high ≤ e.0.timestamp = omega (arith, late, ap (λ (s : Stamp). s.timestamp) head) in
    (first, later_all high e.0 es parts.0 first)

pub keeps_all : (high : ℕ) (es : Lines) → AllByRecursion (λ line. high ≤ line.0.timestamp) es → filter (λ line. nat_le high line.0.timestamp) es ≡ es
keeps_all high [] late = refl
keeps_all high (e ∷ es) late =
    let rest = filter (λ (line : Stamp × Volume). nat_le high line.0.timestamp) es in
    ap (λ b. cond b (e ∷ rest) rest) (le-leb high e.0.timestamp late.0) ∙ ap (λ r. e ∷ r) (keeps_all high es late.1)

pub short_at : (b : BucketsMap) → AreShort (entries b) → (q : Stamp) → IfSome (get b q) IsShort
short_at b short q = subst (λ o. IfSome o IsShort) (sym (get-entries b q)) (each (entries b) short)
  where
    each : (es : Lines) → AreShort es → IfSome (find stamp_cmp q es) IsShort
    each [] short = tt
    each (e ∷ es) short = elim (eq_by_cmp stamp_cmp q e.0) as (λ t. IfSome (cond t (Some e.1) (find stamp_cmp q es)) IsShort) [ true ↦ short.0 | false ↦ each es short.1 ]

pub tree_entries : (es : Lines) → IsStrictlySortedBy stamp_cmp (keys_of es) → entries (buckets_in es) ≡ es
tree_entries es ordered = entries-of_tree stamp_cmp_total stamp_cmp-IsAntisymmetric es ordered

module _ (high moment : ℕ) (es rest : Lines) (l : Stamp × Volume) (ordered : IsStrictlySortedBy stamp_cmp (keys_of es)) (front : es ≡ l ∷ rest) where
  -- the entries without the first
  popped : entries (buckets_in es) ≡ l ∷ entries (buckets_in rest)
  popped =
      let sorted = subst (λ (xs : Lines). IsStrictlySortedBy stamp_cmp (keys_of xs)) front ordered in
      tree_entries es ordered ∙ front ∙ ap (λ r. l ∷ r) (sym (tree_entries rest (sorted_tail stamp_cmp l.0 (keys_of rest) sorted)))

  pub popped_count : count_of (buckets_in es) ≡ l.1.count + count_of (buckets_in rest)
  popped_count = ap (λ ls. (volume_of (λ _. true) ls).count) popped ∙ sum_by-cons (λ (line : Stamp × Volume). cond true line.1.count 0) l (entries (buckets_in rest))

  module _ (before : l.0.timestamp < high) where
    pub popped_left : filter (λ line. nat_le high line.0.timestamp) (entries (buckets_in rest)) ≡ filter (λ line. nat_le high line.0.timestamp) (entries (buckets_in es))
    popped_left =
        let kept = filter (λ (line : Stamp × Volume). nat_le high line.0.timestamp) (entries (buckets_in rest)) in
        sym (ap (λ ls. filter (λ (line : Stamp × Volume). nat_le high line.0.timestamp) ls) popped ∙ ap (λ b. cond b (l ∷ kept) kept) (lt-leb high l.0.timestamp before))

    pub popped_sum : high ≤ moment + 1 → (found after : Partial) → IsSumOf moment (buckets_in es) found → IsOneLess (run_of l) found after → IsSumOf moment (buckets_in rest) after
    popped_sum due found after sum less =
        let short = subst AreShort popped (short-entries (buckets_in es) sum.0) in
        let left = entries (buckets_in rest) in (
          short_at (buckets_in rest) short.1,
          less (map run_of (filter (λ line. is_due moment line.0) left)) (runs-lines _ (all-filter (λ line. 1 ≤ line.1.count) (is_due moment) left (have-lines left short.1))) (
              sum.1
              ∙ ap (λ ls. partial_in (is_due moment) ls) popped
              ∙ first_in (is_due moment) l left (le-leb l.0.timestamp moment (omega (arith, due, before)))
              ),
        )
