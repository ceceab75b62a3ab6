-- What buckets add up to: with lines added, and with lines taken out.
use Rattle.std.specs.Prelude.{◌≡◌, ℕ, ◌+◌, ◌-◌, ◌*◌, ◌==◌, nat_le, nat_lt, Bool, true, false, cond, ◌&&◌, [], ◌∷◌, Option, None, Some, refl}
use Rattle.std.specs.Option.{unwrap_or}
use Rattle.std.specs.List.{sum_by}
use Rattle.std.specs.Ordering.{eq_by_cmp, is_eq, is_lt}
use Rattle.std.specs.declared.cmp.Ordering.{Ordering}
use Rattle.std.specs.declared.cmp.Ordering.TheVariants.{Less, Equal, Greater}
use Rattle.std.specs.FinMap.{get, entries, get-entries, get-insert, entries-insert, entries_sorted, same_map}
use Rattle.std.specs.FinMap.Entries.{find, put, by_order, is_sorted, below_all}
use Rattle.std.proofs.Common.{sym, ap, ◌∙◌, arith}
use Rattle.std.proofs.lemmas.Bool.{and_parts, and_from, leb-true, eqb-true, true≢false}
use Rattle.std.proofs.lemmas.Cmp.{tied_itself}
use Rattle.std.proofs.lemmas.List.Sums.{sum_by-cons}
use Rattle.rl_plain.specs.laws.Bools.{true_from}
use Rattle.rl_labels.specs.EntryParts.{longest_line}
use Rattle.rl_aggregate.specs.TotalsMap.{no_total, plus, minus, if_any, total_at, added, taken, has_volume}
use Rattle.rl_aggregate.specs.laws.Trees.{find_below, get-taken_at}
use Rattle.rl_aggregate.specs.declared.volume.Volume.{Volume}
use Rattle.rl_windows.specs.Buckets.{stamp_cmp, BucketsMap, Lines, volume_of, AreAlike, may_go}
use Rattle.rl_windows.specs.laws.Stamps.{stamp_cmp_total, stamp_cmp-IsAntisymmetric}
use Rattle.rl_windows.specs.declared.element.Stamp.{Stamp}

less : (o : Ordering) → is_lt o ≡ true → o ≡ Less
less Less h = refl
less Equal h = absurd (true≢false (sym h))
less Greater h = absurd (true≢false (sym h))

-- a stamp below each of some is not among them
below-less : (x y : Stamp) (es : Lines) → stamp_cmp x y ≡ Less → below_all stamp_cmp y es ≡ true → below_all stamp_cmp x es ≡ true
below-less x y [] p h = refl
below-less x y (e ∷ es) p h =
    let parts = and_parts (is_lt (stamp_cmp y e.0)) (below_all stamp_cmp y es) h in
    and_from _ _ (ap is_lt (stamp_cmp_total.trans x y e.0 p (less _ parts.0))) (below-less x y es p parts.1)

-- NUMBERS THAT ADD UP

module _ (f : Stamp × Volume → ℕ) (adds : (k : Stamp) (a b : Volume) → f (k, plus a b) ≡ f (k, a) + f (k, b)) (nothing : (k : Stamp) → f (k, no_total) ≡ 0) where
  sum_by-put : (k : Stamp) (v : Volume) (es : Lines) → is_sorted stamp_cmp es ≡ true → sum_by f (put stamp_cmp k (plus (unwrap_or (find stamp_cmp k es) no_total) v) es) ≡ f (k, v) + sum_by f es
  sum_by-put k v [] sorted = omega (arith, sum_by-cons f (k, plus no_total v) [], adds k no_total v, nothing k)
  sum_by-put k v (e ∷ es) sorted =
      let parts = and_parts (below_all stamp_cmp e.0 es) (is_sorted stamp_cmp es) sorted in
      let first = sum_by-cons f e es in
      elim (stamp_cmp k e.0) as (λ r. stamp_cmp k e.0 ≡ r → sum_by f (by_order r ((k, plus (unwrap_or (cond (is_eq r) (Some e.1) (find stamp_cmp k es)) no_total) v) ∷ e ∷ es) ((e.0, plus (unwrap_or (cond (is_eq r) (Some e.1) (find stamp_cmp k es)) no_total) v) ∷ es) (e ∷ put stamp_cmp k (plus (unwrap_or (cond (is_eq r) (Some e.1) (find stamp_cmp k es)) no_total) v) es)) ≡ f (k, v) + sum_by f (e ∷ es)) [
        | Less ↦ λ p.
            let none = find_below stamp_cmp k es (below-less k e.0 es p parts.0) in
            omega (
              arith,
              sum_by-cons f (k, plus (unwrap_or (find stamp_cmp k es) no_total) v) (e ∷ es),
              adds k (unwrap_or (find stamp_cmp k es) no_total) v,
              ap (λ o. f (k, unwrap_or o no_total)) none,
              nothing k,
            )
        | Equal ↦ λ p. omega (
          arith,
          first,
          sum_by-cons f (e.0, plus e.1 v) es,
          adds e.0 e.1 v,
          ap (λ s. f (s, v)) (stamp_cmp-IsAntisymmetric k e.0 p),
        )
        | Greater ↦ λ p. omega (
          arith,
          first,
          sum_by-cons f e (put stamp_cmp k (plus (unwrap_or (find stamp_cmp k es) no_total) v) es),
          sum_by-put k v es parts.1,
        )
      ] refl

  -- with lines added
  sum_by-added : (b : BucketsMap) (k : Stamp) (v : Volume) → sum_by f (entries (added b k v)) ≡ f (k, v) + sum_by f (entries b)
  sum_by-added b k v =
      ap (sum_by f) (entries-insert stamp_cmp_total b k (plus (total_at b k) v) ∙ ap (λ o. put stamp_cmp k (plus (unwrap_or o no_total) v) (entries b)) (get-entries b k))
      ∙ sum_by-put k v (entries b) (true_from _ (entries_sorted b))

either-plus : (b : Bool) (m n : ℕ) → cond b (m + n) 0 ≡ cond b m 0 + cond b n 0
either-plus true m n = refl
either-plus false m n = refl

either-zero : (b : Bool) → ◌≡◌ {A = ℕ} (cond b 0 0) 0
either-zero true = refl
either-zero false = refl

-- whichever stamps are asked for, buckets have the lines that were added, and those before
pub alike-added : (b : BucketsMap) (k : Stamp) (v : Volume) → AreAlike (entries (added b k v)) ((k, v) ∷ entries b)
alike-added b k v test =
    let count : Stamp × Volume → ℕ = λ line. cond (test line.0) line.1.count 0 in
    let bytes : Stamp × Volume → ℕ = λ line. cond (test line.0) line.1.bytes 0 in
    λ i. record {
      count = (sum_by-added count (λ k x y. either-plus (test k) x.count y.count) (λ k. either-zero (test k)) b k v ∙ sym (sum_by-cons count (k, v) (entries b))) i;
      bytes = (sum_by-added bytes (λ k x y. either-plus (test k) x.bytes y.bytes) (λ k. either-zero (test k)) b k v ∙ sym (sum_by-cons bytes (k, v) (entries b))) i;
    }

-- TAKEN OUT

-- what may go and what is left are what was there
whole : (there v : Volume) → may_go (Some there) v ≡ true → plus (unwrap_or (if_any (minus there v)) no_total) v ≡ there
whole there v may =
    let outer = and_parts (nat_lt 0 v.count && has_volume (Some there) v) (nat_le (minus there v).bytes ((minus there v).count * longest_line)) may in
    let inner = and_parts (nat_lt 0 v.count) (has_volume (Some there) v) outer.0 in
    let has = and_parts (nat_le v.count there.count) (nat_le v.bytes there.bytes) inner.1 in
    let count = leb-true v.count there.count has.0 in
    let bytes = leb-true v.bytes there.bytes has.1 in
    let short = leb-true (there.bytes - v.bytes) ((there.count - v.count) * longest_line) outer.1 in
    elim (there.count - v.count == 0) as (λ b. there.count - v.count == 0 ≡ b → plus (unwrap_or (cond b None (Some (minus there v))) no_total) v ≡ there) [
      | true ↦ λ none.
          let gone = eqb-true (there.count - v.count) 0 none in
          let counts : 0 + v.count ≡ there.count = omega (arith, count, gone) in
          let all : 0 + v.bytes ≡ there.bytes = omega (arith, bytes, short, gone) in
          λ i. record { count = counts i; bytes = all i }
      | false ↦ λ _.
          let counts : there.count - v.count + v.count ≡ there.count = omega (arith, count) in
          let all : there.bytes - v.bytes + v.bytes ≡ there.bytes = omega (arith, bytes) in
          λ i. record { count = counts i; bytes = all i }
    ] refl

-- lines that may go, taken out and added again, are as before
pub added-taken : (b : BucketsMap) (k : Stamp) (v : Volume) → may_go (get b k) v ≡ true → added (taken b k v) k v ≡ b
added-taken b k v may = same_map stamp_cmp_total stamp_cmp-IsAntisymmetric _ _ (λ q.
    get-insert stamp_cmp_total (taken b k v) k (plus (total_at (taken b k v) k) v) q
    ∙ (λ i. cond (eq_by_cmp stamp_cmp q k) (Some (plus (unwrap_or (there i) no_total) v)) (get-taken_at stamp_cmp_total b k v q i))
    ∙ elim (eq_by_cmp stamp_cmp q k) as (λ t. eq_by_cmp stamp_cmp q k ≡ t → cond t (Some (plus (unwrap_or (if_any (minus (total_at b k) v)) no_total) v)) (cond t (if_any (minus (total_at b k) v)) (get b q)) ≡ get b q) [
      | true ↦ λ is. at (get b k) refl ∙ ap (get b) (sym (stamp_cmp-IsAntisymmetric q k (equal _ is)))
      | false ↦ λ _. refl
    ] refl)
  where
    equal : (o : Ordering) → is_eq o ≡ true → o ≡ Equal
    equal Less h = absurd (true≢false (sym h))
    equal Equal h = refl
    equal Greater h = absurd (true≢false (sym h))

    there : get (taken b k v) k ≡ if_any (minus (total_at b k) v)
    there = get-taken_at stamp_cmp_total b k v k ∙ ap (λ t. cond (is_eq t) (if_any (minus (total_at b k) v)) (get b k)) (tied_itself stamp_cmp_total k)

    at : (o : Option Volume) → get b k ≡ o → Some (plus (unwrap_or (if_any (minus (unwrap_or (get b k) no_total) v)) no_total) v) ≡ get b k
    at None is = absurd (true≢false (sym may ∙ ap (λ o. may_go o v) is))
    at (Some w) is =
        ap (λ o. Some (plus (unwrap_or (if_any (minus (unwrap_or o no_total) v)) no_total) v)) is
        ∙ ap (λ t. Some t) (whole w v (sym (ap (λ o. may_go o v) is) ∙ may))
        ∙ sym is

-- so buckets have what may go and what they have without it
pub alike-taken : (b : BucketsMap) (k : Stamp) (v : Volume) → may_go (get b k) v ≡ true → AreAlike ((k, v) ∷ entries (taken b k v)) (entries b)
alike-taken b k v may test = sym (alike-added (taken b k v) k v test) ∙ ap (λ m. volume_of test (entries m)) (added-taken b k v may)
