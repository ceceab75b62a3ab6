-- What lines add up to, by sums alone: those at some stamps, with more, and with fewer.
use Rattle.std.specs.Prelude.{◌≡◌, ℕ, zero, suc, ◌+◌, ◌-◌, ◌*◌, ◌≤◌, ◌==◌, nat_le, nat_lt, Bool, true, false, cond, ◌&&◌, [], ◌∷◌, map, Option, None, Some, IfSome, refl}
use Rattle.std.specs.Option.{unwrap_or, option_eq}
use Rattle.std.specs.List.{AllByRecursion, filter, sum_by}
use Rattle.std.specs.Ordering.{eq_by_cmp, is_eq, is_lt}
use Rattle.std.specs.declared.cmp.Ordering.{Ordering}
use Rattle.std.specs.declared.cmp.Ordering.TheVariants.{Less, Equal, Greater}
use Rattle.std.specs.FinMap.{get, entries, get-entries, get-insert, entries_sorted}
use Rattle.std.specs.FinMap.Entries.{find, is_sorted, below_all}
use Rattle.std.proofs.Common.{sym, ap, subst, ◌∙◌, arith}
use Rattle.std.proofs.lemmas.Bool.{and_parts, and_from, eqb-false, le-leb, leb-true, lt-ltb, ltb-true, true≢false}
use Rattle.std.proofs.lemmas.Cmp.{tied_itself}
use Rattle.std.proofs.lemmas.List.Sums.{sum_by-cons, sum_by-le-sum_by}
use Rattle.rl_plain.specs.laws.Bools.{true_from}
use Rattle.rl_labels.specs.EntryParts.{longest_line}
use Rattle.rl_labels.specs.LabelSet.{LabelSet}
use Rattle.rl_labels.specs.LabelText.{label_set_cmp}
use Rattle.rl_aggregate.specs.Limited.{IsWithin}
use Rattle.rl_aggregate.specs.Partials.{has_labels, volume_at, partial_of, most_entries, Fits, VolumeFits}
use Rattle.rl_aggregate.specs.Runs.{with_volume, HasLine}
use Rattle.rl_aggregate.specs.TotalsMap.{no_total, plus, minus, if_any, total_at, added, taken, has_volume}
use Rattle.rl_aggregate.specs.laws.Runs.{partial_of-more, partial_of-sums}
use Rattle.rl_aggregate.specs.laws.Trees.{find_below, get-taken_at}
use Rattle.rl_aggregate.specs.laws.Within.{within-fits, within-more, within-none, within-run}
use Rattle.rl_aggregate.specs.declared.volume.Volume.{Volume}
use Rattle.rl_aggregate.specs.declared.run.Run.{Run}
use Rattle.rl_windows.specs.Buckets.{stamp_cmp, BucketsMap, Lines, volume_of, AreAlike, AreShort, IsShort, may_go}
use Rattle.rl_windows.specs.Windows.{run_of, partial_in, count_of}
use Rattle.rl_windows.specs.laws.Stamps.{stamp_cmp_total, stamp_cmp-IsAntisymmetric}
use Rattle.rl_windows.specs.laws.Sums.{alike-added}
use Rattle.rl_windows.specs.declared.element.Stamp.{Stamp}

ties : (k : Stamp) → eq_by_cmp stamp_cmp k k ≡ true
ties k = ap is_eq (tied_itself stamp_cmp_total k)

-- LINES AT SOME STAMPS

abbrev number_of : (Volume → ℕ) → (Stamp → Bool) → Lines → ℕ
number_of number test lines = sum_by (λ line. cond (test line.0) (number line.1) 0) lines

module _ (number : Volume → ℕ) where
  number-cons : (test : Stamp → Bool) (l : Stamp × Volume) (ls : Lines) → number_of number test (l ∷ ls) ≡ cond (test l.0) (number l.1) 0 + number_of number test ls
  number-cons test l ls = sum_by-cons (λ line. cond (test line.0) (number line.1) 0) l ls

  number-filter : (p test : Stamp → Bool) (ls : Lines) → number_of number test (filter (λ line. p line.0) ls) ≡ number_of number (λ s. p s && test s) ls
  number-filter p test [] = refl
  number-filter p test (l ∷ ls) =
      let kept = filter (λ line. p line.0) ls in
      elim (p l.0) as (λ b. number_of number test (cond b (l ∷ kept) kept) ≡ cond (b && test l.0) (number l.1) 0 + number_of number (λ s. p s && test s) ls) [
        | true ↦ number-cons test l kept ∙ ap (λ n. cond (test l.0) (number l.1) 0 + n) (number-filter p test ls)
        | false ↦ omega (arith, number-filter p test ls)
      ]
      ∙ sym (number-cons (λ s. p s && test s) l ls)

  -- a stamp that stands before all others is not among them
  number-below : (k : Stamp) (es : Lines) → below_all stamp_cmp k es ≡ true → number_of number (eq_by_cmp stamp_cmp k) es ≡ 0
  number-below k [] below = refl
  number-below k (e ∷ es) below =
      let parts = and_parts (is_lt (stamp_cmp k e.0)) (below_all stamp_cmp k es) below in
      omega (
        arith,
        number-cons (eq_by_cmp stamp_cmp k) e es,
        ap (λ b. cond b (number e.1) 0) (apart (stamp_cmp k e.0) parts.0),
        number-below k es parts.1,
      )
    where
      apart : (o : Ordering) → is_lt o ≡ true → is_eq o ≡ false
      apart Less h = refl
      apart Equal h = absurd (true≢false (sym h))
      apart Greater h = refl

  -- what stands at a stamp is the sum there
  number-find : number no_total ≡ 0 → (k : Stamp) (es : Lines) → is_sorted stamp_cmp es ≡ true → number (unwrap_or (find stamp_cmp k es) no_total) ≡ number_of number (eq_by_cmp stamp_cmp k) es
  number-find nothing k [] sorted = nothing
  number-find nothing k (e ∷ es) sorted =
      let parts = and_parts (below_all stamp_cmp e.0 es) (is_sorted stamp_cmp es) sorted in
      let later = number-find nothing k es parts.1 in
      elim (stamp_cmp k e.0) as (λ r. stamp_cmp k e.0 ≡ r → number (unwrap_or (cond (is_eq r) (Some e.1) (find stamp_cmp k es)) no_total) ≡ cond (is_eq r) (number e.1) 0 + number_of number (eq_by_cmp stamp_cmp k) es) [
        | Less ↦ λ _. omega (arith, later)
        | Equal ↦ λ p. omega (arith, number-below k es (ap (λ s. below_all stamp_cmp s es) (stamp_cmp-IsAntisymmetric k e.0 p) ∙ parts.0))
        | Greater ↦ λ _. omega (arith, later)
      ] refl
      ∙ sym (number-cons (eq_by_cmp stamp_cmp k) e es)

volume_of-cons : (test : Stamp → Bool) (l : Stamp × Volume) (ls : Lines) → volume_of test (l ∷ ls) ≡ cond (test l.0) (plus l.1 (volume_of test ls)) (volume_of test ls)
volume_of-cons test l ls =
    let rest = volume_of test ls in
    (λ i. record { count = number-cons (λ v. v.count) test l ls i; bytes = number-cons (λ v. v.bytes) test l ls i })
    ∙ elim (test l.0) as (λ b. record { count = cond b l.1.count 0 + rest.count; bytes = cond b l.1.bytes 0 + rest.bytes } ≡ cond b (plus l.1 rest) rest) [
      | true ↦ refl
      | false ↦
          let count : 0 + rest.count ≡ rest.count = omega arith in
          let bytes : 0 + rest.bytes ≡ rest.bytes = omega arith in
          λ i. record { count = count i; bytes = bytes i }
    ]

pub volume_of-filter : (p test : Stamp → Bool) (ls : Lines) → volume_of test (filter (λ line. p line.0) ls) ≡ volume_of (λ s. p s && test s) ls
volume_of-filter p test ls = λ i. record { count = number-filter (λ v. v.count) p test ls i; bytes = number-filter (λ v. v.bytes) p test ls i }

-- what stands at a stamp is what the lines there add up to
total_at-lines : (b : BucketsMap) (k : Stamp) → total_at b k ≡ volume_of (eq_by_cmp stamp_cmp k) (entries b)
total_at-lines b k =
    let sorted = true_from _ (entries_sorted b) in
    ap (λ o. unwrap_or o no_total) (get-entries b k)
    ∙ (λ i. record { count = number-find (λ v. v.count) refl k (entries b) sorted i; bytes = number-find (λ v. v.bytes) refl k (entries b) sorted i })

pub alike-filter : (p : Stamp → Bool) (ls ms : Lines) → AreAlike ls ms → AreAlike (filter (λ line. p line.0) ls) (filter (λ line. p line.0) ms)
alike-filter p ls ms alike test = volume_of-filter p test ls ∙ alike (λ s. p s && test s) ∙ sym (volume_of-filter p test ms)

-- with the same lines more
pub alike-cons : (l : Stamp × Volume) (ls ms : Lines) → AreAlike ls ms → AreAlike (l ∷ ls) (l ∷ ms)
alike-cons l ls ms alike test = volume_of-cons test l ls ∙ ap (λ v. cond (test l.0) (plus l.1 v) v) (alike test) ∙ sym (volume_of-cons test l ms)

-- and with the same lines less
pub alike-rest : (l : Stamp × Volume) (ls ms : Lines) → AreAlike (l ∷ ls) (l ∷ ms) → AreAlike ls ms
alike-rest l ls ms alike test =
    let count = ap (λ (v : Volume). v.count) (alike test) in
    let bytes = ap (λ (v : Volume). v.bytes) (alike test) in
    let counts : (volume_of test ls).count ≡ (volume_of test ms).count = omega (arith, count, number-cons (λ v. v.count) test l ls, number-cons (λ v. v.count) test l ms) in
    let all : (volume_of test ls).bytes ≡ (volume_of test ms).bytes = omega (arith, bytes, number-cons (λ v. v.bytes) test l ls, number-cons (λ v. v.bytes) test l ms) in
    λ i. record { count = counts i; bytes = all i }

-- SHORT LINES

pub all-filter : (P : Stamp × Volume → Type 0) (p : Stamp → Bool) (ls : Lines) → AllByRecursion P ls → AllByRecursion P (filter (λ line. p line.0) ls)
all-filter P p [] all = tt
all-filter P p (l ∷ ls) all =
    let kept = filter (λ line. p line.0) ls in
    elim (p l.0) as (λ b. AllByRecursion P (cond b (l ∷ kept) kept)) [ true ↦ (all.0, all-filter P p ls all.1) | false ↦ all-filter P p ls all.1 ]

pub short-filter : (p : Stamp → Bool) (ls : Lines) → AreShort ls → AreShort (filter (λ line. p line.0) ls)
short-filter p ls short = all-filter (λ l. IsShort l.1) p ls short

abbrev pub HaveLines : Lines → Type 0
HaveLines ls = AllByRecursion (λ l. 1 ≤ l.1.count) ls

pub have-lines : (ls : Lines) → AreShort ls → HaveLines ls
have-lines [] short = tt
have-lines (l ∷ ls) short = (short.0.0, have-lines ls short.1)

-- the lines at some stamps have at most as many bytes as so many of the longest
volume_of-short : (test : Stamp → Bool) (ls : Lines) → AreShort ls → (volume_of test ls).bytes ≤ (volume_of test ls).count * longest_line
volume_of-short test [] short = omega arith
volume_of-short test (l ∷ ls) short =
    subst (λ (v : Volume). v.bytes ≤ v.count * longest_line) (sym (volume_of-cons test l ls)) (
    elim (test l.0) as (λ b. (cond b (plus l.1 (volume_of test ls)) (volume_of test ls)).bytes ≤ (cond b (plus l.1 (volume_of test ls)) (volume_of test ls)).count * longest_line) [
      | true ↦ omega (arith, short.0.1, volume_of-short test ls short.1)
      | false ↦ volume_of-short test ls short.1
    ]
    )

-- each bucket has lines, and these are short
abbrev pub AreShortAt : BucketsMap → Type 0
AreShortAt b = (stamp : Stamp) → IfSome (get b stamp) IsShort

pub short-entries : (b : BucketsMap) → AreShortAt b → AreShort (entries b)
short-entries b short = each (entries b) (true_from _ (entries_sorted b)) (λ q. subst (λ o. IfSome o IsShort) (get-entries b q) (short q))
  where
    later : (k q : Stamp) (v : Volume) (es : Lines) → below_all stamp_cmp k es ≡ true → IfSome (cond (eq_by_cmp stamp_cmp q k) (Some v) (find stamp_cmp q es)) IsShort → IfSome (find stamp_cmp q es) IsShort
    later k q v es below = elim (stamp_cmp q k) as (λ r. stamp_cmp q k ≡ r → IfSome (cond (is_eq r) (Some v) (find stamp_cmp q es)) IsShort → IfSome (find stamp_cmp q es) IsShort) [
      | Less ↦ λ _ h. h
      | Equal ↦ λ p _. subst (λ o. IfSome o IsShort) (sym (find_below stamp_cmp q es (ap (λ s. below_all stamp_cmp s es) (stamp_cmp-IsAntisymmetric q k p) ∙ below))) tt
      | Greater ↦ λ _ h. h
    ] refl

    each : (es : Lines) → is_sorted stamp_cmp es ≡ true → ((q : Stamp) → IfSome (find stamp_cmp q es) IsShort) → AreShort es
    each [] sorted short = tt
    each (e ∷ es) sorted short =
        let parts = and_parts (below_all stamp_cmp e.0 es) (is_sorted stamp_cmp es) sorted in (
          subst (λ b. IfSome (cond b (Some e.1) (find stamp_cmp e.0 es)) IsShort) (ties e.0) (short e.0),
          each es parts.1 (λ q. later e.0 q e.1 es parts.0 (short q)),
        )

short_total : (o : Option Volume) → IfSome o IsShort → (unwrap_or o no_total).bytes ≤ (unwrap_or o no_total).count * longest_line
short_total None h = omega arith
short_total (Some v) h = h.1

pub short-added : (b : BucketsMap) (k : Stamp) (v : Volume) → AreShortAt b → IsShort v → AreShortAt (added b k v)
short-added b k v short line q = subst (λ o. IfSome o IsShort) (sym (get-insert stamp_cmp_total b k (plus (total_at b k) v) q)) (
    elim (eq_by_cmp stamp_cmp q k) as (λ t. IfSome (cond t (Some (plus (total_at b k) v)) (get b q)) IsShort) [
      | true ↦ (omega (arith, line.0), omega (arith, line.1, short_total (get b k) (short k)))
      | false ↦ short q
    ]
    )

-- what lines may go: as many as there are, and those that are left are short
pub gone : (o : Option Volume) (v : Volume) → may_go o v ≡ true → (1 ≤ v.count) × (v.count ≤ (unwrap_or o no_total).count) × (v.bytes ≤ (unwrap_or o no_total).bytes) × ((unwrap_or o no_total).bytes - v.bytes ≤ ((unwrap_or o no_total).count - v.count) * longest_line)
gone None v may = absurd (true≢false (sym may))
gone (Some there) v may =
    let outer = and_parts (nat_lt 0 v.count && has_volume (Some there) v) (nat_le (minus there v).bytes ((minus there v).count * longest_line)) may in
    let inner = and_parts (nat_lt 0 v.count) (has_volume (Some there) v) outer.0 in
    let has = and_parts (nat_le v.count there.count) (nat_le v.bytes there.bytes) inner.1 in (
      omega (arith, ltb-true 0 v.count inner.0),
      leb-true v.count there.count has.0,
      leb-true v.bytes there.bytes has.1,
      leb-true (there.bytes - v.bytes) ((there.count - v.count) * longest_line) outer.1,
    )

pub short-taken : (b : BucketsMap) (k : Stamp) (v : Volume) → AreShortAt b → may_go (get b k) v ≡ true → AreShortAt (taken b k v)
short-taken b k v short may q =
    let parts = gone (get b k) v may in
    let left = minus (total_at b k) v in
    subst (λ o. IfSome o IsShort) (sym (get-taken_at stamp_cmp_total b k v q)) (
    elim (eq_by_cmp stamp_cmp q k) as (λ t. IfSome (cond t (if_any left) (get b q)) IsShort) [
      | true ↦ elim (left.count == 0) as (λ s. left.count == 0 ≡ s → IfSome (cond s None (Some left)) IsShort) [
        | true ↦ λ _. tt
        | false ↦ λ some. (one left.count (eqb-false left.count 0 some), parts.3)
      ] refl
      | false ↦ short q
    ]
    )
  where
    one : (n : ℕ) → (n ≡ 0 → ⊥) → 1 ≤ n
    one zero h = absurd (h refl)
    one (suc n) h = omega arith

-- lines that are among others may go
pub may-go : (o : Option Volume) (v rest : Volume) → unwrap_or o no_total ≡ plus v rest → 1 ≤ v.count → rest.bytes ≤ rest.count * longest_line → may_go o v ≡ true
may-go None v rest is some short = absurd (omega (arith, some, ap (λ (t : Volume). t.count) is))
may-go (Some there) v rest is some short =
    let count = ap (λ (t : Volume). t.count) is in
    let bytes = ap (λ (t : Volume). t.bytes) is in
    and_from _ _ (and_from _ _ (lt-ltb 0 v.count (omega (arith, some))) (and_from _ _ (le-leb v.count there.count (omega (arith, count))) (le-leb v.bytes there.bytes (omega (arith, bytes)))))
    (le-leb (there.bytes - v.bytes) ((there.count - v.count) * longest_line) (omega (arith, count, bytes, short)))

-- so may those of buckets that have them and other short lines
pub may-go-alike : (b : BucketsMap) (k : Stamp) (v : Volume) (ls : Lines) → AreAlike (entries b) ((k, v) ∷ ls) → 1 ≤ v.count → AreShort ls → may_go (get b k) v ≡ true
may-go-alike b k v ls alike some short =
    let own = eq_by_cmp stamp_cmp k in
    may-go (get b k) v (volume_of own ls) (
    total_at-lines b k ∙ alike own ∙ volume_of-cons own (k, v) ls ∙ ap (λ t. cond t (plus v (volume_of own ls)) (volume_of own ls)) (ties k)
    ) some (volume_of-short own ls short)

-- PARTIALS

sum-runs : (f : Run → ℕ) (ls : Lines) → sum_by f (map run_of ls) ≡ sum_by (λ l. f (run_of l)) ls
sum-runs f [] = refl
sum-runs f (l ∷ ls) = sum_by-cons f (run_of l) (map run_of ls) ∙ ap (λ n. f (run_of l) + n) (sum-runs f ls) ∙ sym (sum_by-cons (λ l. f (run_of l)) l ls)

volume_at-runs : (q : Option LabelSet) (ls : Lines) → volume_at (map run_of ls) q ≡ volume_of (λ s. option_eq (eq_by_cmp label_set_cmp) q s.labels) ls
volume_at-runs q ls = λ i. record { count = sum-runs (λ run. cond (has_labels q run) run.volume.count 0) ls i; bytes = sum-runs (λ run. cond (has_labels q run) run.volume.bytes 0) ls i }

pub runs-lines : (ls : Lines) → HaveLines ls → AllByRecursion HasLine (map run_of ls)
runs-lines [] lines = tt
runs-lines (l ∷ ls) lines = (lines.0, runs-lines ls lines.1)

-- lines that are alike add up to one partial
pub partial-alike : (ls ms : Lines) → HaveLines ls → HaveLines ms → AreAlike ls ms → partial_of (map run_of ls) ≡ partial_of (map run_of ms)
partial-alike ls ms lines others alike =
    partial_of-sums (map run_of ls) (map run_of ms) (runs-lines ls lines) (runs-lines ms others) (λ q. volume_at-runs q ls ∙ alike (λ s. option_eq (eq_by_cmp label_set_cmp) q s.labels) ∙ sym (volume_at-runs q ms))

pub partial_in-alike : (p : Stamp → Bool) (ls ms : Lines) → HaveLines ls → HaveLines ms → AreAlike ls ms → partial_in p ls ≡ partial_in p ms
partial_in-alike p ls ms lines others alike = partial-alike _ _ (all-filter (λ l. 1 ≤ l.1.count) p ls lines) (all-filter (λ l. 1 ≤ l.1.count) p ms others) (alike-filter p ls ms alike)

-- the first of lines counts where its stamp passes
pub first_in : (p : Stamp → Bool) (l : Stamp × Volume) (ls : Lines) → p l.0 ≡ true → partial_in p (l ∷ ls) ≡ partial_of (run_of l ∷ map run_of (filter (λ line. p line.0) ls))
first_in p l ls is = ap (λ b. partial_of (map run_of (cond b (l ∷ filter (λ line. p line.0) ls) (filter (λ line. p line.0) ls)))) is

pub first_out : (p : Stamp → Bool) (l : Stamp × Volume) (ls : Lines) → p l.0 ≡ false → partial_in p (l ∷ ls) ≡ partial_in p ls
first_out p l ls is = ap (λ b. partial_of (map run_of (cond b (l ∷ filter (λ line. p line.0) ls) (filter (λ line. p line.0) ls)))) is

-- LIMITS

pub within-lines : (ls : Lines) → AreShort ls → IsWithin (volume_of (λ _. true) ls).count (partial_of (map run_of ls))
within-lines [] short = within-none
within-lines (l ∷ ls) short =
    let count = (volume_of (λ _. true) ls).count in
    within-more (count + l.1.count) (volume_of (λ _. true) (l ∷ ls)).count _ (omega (arith, number-cons (λ v. v.count) (λ _. true) l ls)) (
    subst (IsWithin (count + l.1.count)) (sym (partial_of-more (run_of l) (map run_of ls))) (within-run count (partial_of (map run_of ls)) (run_of l) short.0.0 short.0.1 (within-lines ls short.1))
    )

pub count-filter : (p : Stamp → Bool) (ls : Lines) → (volume_of (λ _. true) (filter (λ line. p line.0) ls)).count ≤ (volume_of (λ _. true) ls).count
count-filter p ls = omega (
  arith,
  number-filter (λ v. v.count) p (λ _. true) ls,
  sum_by-le-sum_by (λ (l : Stamp × Volume). cond (p l.0 && true) l.1.count 0) (λ l. l.1.count) ls (λ l. part (p l.0) l.1.count),
)
  where
    part : (b : Bool) (n : ℕ) → cond (b && true) n 0 ≤ n
    part true n = omega arith
    part false n = omega arith

-- what buckets add up to at some stamps is within their lines
pub within-partial_in : (p : Stamp → Bool) (b : BucketsMap) → AreShortAt b → IsWithin (count_of b) (partial_in p (entries b))
within-partial_in p b short = within-more _ _ _ (count-filter p (entries b)) (within-lines _ (short-filter p (entries b) (short-entries b short)))

-- also with lines more, for which there is room
pub more-fits : (p : Stamp → Bool) (b : BucketsMap) (k : Stamp) (v : Volume) → AreShortAt b → IsShort v → count_of b + v.count ≤ most_entries → Fits (with_volume k.labels v (partial_in p (entries b)))
more-fits p b k v short line few = within-fits (count_of b + v.count) _ (within-run (count_of b) (partial_in p (entries b)) (run_of (k, v)) line.0 line.1 (within-partial_in p b short)) few

-- and at a stamp
pub bucket-fits : (b : BucketsMap) (k : Stamp) (v : Volume) → AreShortAt b → IsShort v → count_of b + v.count ≤ most_entries → VolumeFits (plus (total_at b k) v)
bucket-fits b k v short line few =
    let count : (total_at b k).count ≤ count_of b = omega (
      arith,
      ap (λ (t : Volume). t.count) (total_at-lines b k),
      sum_by-le-sum_by (λ (l : Stamp × Volume). cond (eq_by_cmp stamp_cmp k l.0) l.1.count 0) (λ l. l.1.count) (entries b) (λ l. part (eq_by_cmp stamp_cmp k l.0) l.1.count),
    ) in
    let bytes = short_total (get b k) (short k) in (
      omega (arith, count, few),
      omega (arith, count, few, bytes, line.1),
    )
  where
    part : (b : Bool) (n : ℕ) → cond b n 0 ≤ n
    part true n = omega arith
    part false n = omega arith

-- how many lines there are with some more, and with some fewer
pub count_of-added : (b : BucketsMap) (k : Stamp) (v : Volume) → count_of (added b k v) ≡ v.count + count_of b
count_of-added b k v = ap (λ (t : Volume). t.count) (alike-added b k v (λ _. true)) ∙ number-cons (λ t. t.count) (λ _. true) (k, v) (entries b)
