-- What lines that come and go make of what is due.
use Rattle.std.proofs.Common.{◌≡◌, ℕ, ◌+◌, ◌≤◌, true, false, Bool, [], ◌∷◌, map, length, Ok, Err, Result, refl, sym, ap, subst, ◌∙◌, arith}
use Rattle.std.specs.List.{filter}
use Rattle.std.specs.FinMap.{empty, entries, get, get-empty, len-empty, len-entries}
use Rattle.std.specs.Prelude.{IfSome, OnErr, OnOk, is_err}
use Rattle.std.proofs.lemmas.Bool.{true≢false}
use Rattle.rl_aggregate.specs.Partials.{partial_of}
use Rattle.rl_aggregate.specs.Runs.{IsOneLess, IsOneMore}
use Rattle.rl_aggregate.specs.TotalsMap.{added, taken}
use Rattle.rl_aggregate.specs.declared.volume.Volume.{Volume}
use Rattle.rl_aggregate.specs.declared.partial.Partial.{Partial}
use Rattle.rl_windows.specs.Buckets.{stamp_cmp, BucketsMap, Lines, IsShort, may_go}
use Rattle.rl_windows.specs.Windows.{run_of, partial_in, is_due, count_of, IsSumOf}
use Rattle.rl_windows.specs.laws.Alike.{all-filter, count_of-added, first_in, first_out, gone, have-lines, partial_in-alike, runs-lines, short-added, short-entries, short-taken}
use Rattle.rl_windows.specs.laws.Sums.{added-taken, alike-added, alike-taken}
use Rattle.rl_windows.specs.declared.element.Stamp.{Stamp}

module _ (moment : ℕ) (b : BucketsMap) (k : Stamp) (v : Volume) where
  abbrev due : Stamp × Volume → Bool
  due line = is_due moment line.0

  module _ (found : Partial) (sum : IsSumOf moment b found) where
    module _ (short : IsShort v) where
      more_alike : partial_in (is_due moment) ((k, v) ∷ entries b) ≡ partial_in (is_due moment) (entries (added b k v))
      more_alike = partial_in-alike (is_due moment) ((k, v) ∷ entries b) (entries (added b k v)) (short.0, have-lines _ (short-entries b sum.0)) (have-lines _ (short-entries (added b k v) (short-added b k v sum.0 short))) (λ test. sym (alike-added b k v test))

      -- lines that are due come
      pub due_more : (after : Partial) → is_due moment k ≡ true → IsOneMore (run_of (k, v)) found after → IsSumOf moment (added b k v) after
      due_more after is more = (
        short-added b k v sum.0 short,
        more (map run_of (filter due (entries b))) sum.1 ∙ sym (first_in (is_due moment) (k, v) (entries b) is) ∙ more_alike,
      )

      -- or later ones
      pub later_more : is_due moment k ≡ false → IsSumOf moment (added b k v) found
      later_more is = (short-added b k v sum.0 short, sum.1 ∙ sym (first_out (is_due moment) (k, v) (entries b) is) ∙ more_alike)

    module _ (may : may_go (get b k) v ≡ true) where
      less_alike : partial_in (is_due moment) (entries b) ≡ partial_in (is_due moment) ((k, v) ∷ entries (taken b k v))
      less_alike = partial_in-alike (is_due moment) (entries b) ((k, v) ∷ entries (taken b k v)) (have-lines _ (short-entries b sum.0)) ((gone (get b k) v may).0, have-lines _ (short-entries (taken b k v) (short-taken b k v sum.0 may))) (λ test. sym (alike-taken b k v may test))

      -- lines that are due go
      pub due_less : (after : Partial) → is_due moment k ≡ true → IsOneLess (run_of (k, v)) found after → IsSumOf moment (taken b k v) after
      due_less after is less =
          let left = entries (taken b k v) in
          let short = short-taken b k v sum.0 may in (
            short,
            less (map run_of (filter due left)) (runs-lines _ (all-filter (λ l. 1 ≤ l.1.count) (is_due moment) left (have-lines left (short-entries (taken b k v) short)))) (sum.1 ∙ less_alike ∙ first_in (is_due moment) (k, v) left is),
          )

      -- or later ones
      pub later_less : is_due moment k ≡ false → IsSumOf moment (taken b k v) found
      later_less is = (short-taken b k v sum.0 may, sum.1 ∙ less_alike ∙ first_out (is_due moment) (k, v) (entries (taken b k v)) is)

-- a partial to which a run comes and of which it goes is what it was
pub back : (moment : ℕ) (b : BucketsMap) (k : Stamp) (v : Volume) (found mid after : Partial) → IsSumOf moment b found → IsOneMore (run_of (k, v)) found mid → IsOneLess (run_of (k, v)) mid after → after ≡ found
back moment b k v found mid after sum more less =
    let runs = map run_of (filter (λ line. is_due moment line.0) (entries b)) in
    less runs (runs-lines _ (all-filter (λ l. 1 ≤ l.1.count) (is_due moment) (entries b) (have-lines _ (short-entries b sum.0)))) (more runs sum.1) ∙ sym sum.1

-- how many lines are left
pub count_of-taken : (b : BucketsMap) (k : Stamp) (v : Volume) → may_go (get b k) v ≡ true → count_of b ≡ v.count + count_of (taken b k v)
count_of-taken b k v may = ap (λ m. count_of m) (sym (added-taken b k v may)) ∙ count_of-added (taken b k v) k v

-- no buckets have no entries
pub no_entries : entries (empty {X = Volume} {R = stamp_cmp}) ≡ []
no_entries = none _ (sym (len-entries (empty {X = Volume} {R = stamp_cmp})) ∙ len-empty stamp_cmp Volume)
  where
    none : (es : Lines) → length es ≡ 0 → es ≡ []
    none [] is = refl
    none (e ∷ es) is = absurd (omega (arith, is))

-- and add up to nothing
pub sum_of_none : (moment : ℕ) → IsSumOf moment empty (partial_of [])
sum_of_none moment = (
  (λ stamp. subst (λ o. IfSome o IsShort) (sym (get-empty stamp_cmp stamp)) tt),
  (λ i. partial_in (is_due moment) (sym no_entries i)),
)

-- what an answer says of the new value, where it is known which it is
pub when_err : {T E P : Type 0} (r : Result T E) → OnErr r P → is_err r ≡ true → P
when_err (Ok x) h is = absurd (true≢false (sym is))
when_err (Err x) h is = h

pub when_ok : {T E P : Type 0} (r : Result T E) → OnOk r P → is_err r ≡ false → P
when_ok (Ok x) h is = h
when_ok (Err x) h is = absurd (true≢false is)
