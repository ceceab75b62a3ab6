-- What a window stands for, when lines come and go, and what it shows.
use Rattle.std.proofs.Common.{◌≡◌, ℕ, true, false, cond, List, ◌∷◌, map, sym, ap, subst, ◌∙◌, arith}
use Rattle.std.specs.List.{filter}
use Rattle.std.specs.FinMap.{entries, get}
use Rattle.rl_aggregate.specs.Limited.{IsWithin}
use Rattle.rl_aggregate.specs.Partials.{partial_of}
use Rattle.rl_aggregate.specs.TotalsMap.{added, taken}
use Rattle.rl_aggregate.specs.laws.Counting.{filter-both}
use Rattle.rl_aggregate.specs.laws.Within.{within-more}
use Rattle.rl_aggregate.specs.declared.partial.Partial.{Partial}
use Rattle.rl_windows.specs.Buckets.{BucketsMap, Lines, volume_of, AreAlike, IsShort, may_go}
use Rattle.rl_windows.specs.Windows.{run_of, lines_of, is_needed, is_due, in_range, count_of, IsSumOf, IsWindow, StandsFor, WindowView}
use Rattle.rl_windows.specs.laws.Alike.{alike-cons, alike-rest, have-lines, may-go-alike, partial_in-alike, short-entries, short-filter, within-partial_in}
use Rattle.rl_windows.specs.laws.Sums.{alike-added, alike-taken}
use Rattle.rl_windows.specs.declared.element.Element.{Element}

module _ (seconds moment most : ℕ) where
  abbrev pub window_of : BucketsMap → WindowView
  window_of b = record { seconds = seconds; moment = moment; buckets = b; most = most }

  abbrev kept : List Element → Lines
  kept es = filter (λ line. is_needed seconds moment line.0) (lines_of es)

  module _ (b : BucketsMap) (e : Element) where
    -- an element that is not needed stays out
    pub stays_out : IsShort e.volume → is_needed seconds moment e.stamp ≡ false → (es : List Element) → StandsFor (window_of b) es → StandsFor (window_of b) (e ∷ es)
    stays_out short out es stands = ((short, stands.0), λ test. stands.1 test ∙ ap (λ t. volume_of test (cond t ((e.stamp, e.volume) ∷ kept es) (kept es))) (sym out))

    pub was_out : is_needed seconds moment e.stamp ≡ false → (es : List Element) → StandsFor (window_of b) (e ∷ es) → StandsFor (window_of b) es
    was_out out es stands = (stands.0.1, λ test. stands.1 test ∙ ap (λ t. volume_of test (cond t ((e.stamp, e.volume) ∷ kept es) (kept es))) out)

    module _ (needed : is_needed seconds moment e.stamp ≡ true) where
      -- one that is comes
      pub comes : IsShort e.volume → (es : List Element) → StandsFor (window_of b) es → StandsFor (window_of (added b e.stamp e.volume)) (e ∷ es)
      comes short es stands = (
        (short, stands.0),
        λ test.
            alike-added b e.stamp e.volume test
            ∙ alike-cons (e.stamp, e.volume) (entries b) (kept es) stands.1 test
            ∙ ap (λ t. volume_of test (cond t ((e.stamp, e.volume) ∷ kept es) (kept es))) (sym needed),
      )

      has_it : (es : List Element) → StandsFor (window_of b) (e ∷ es) → AreAlike (entries b) ((e.stamp, e.volume) ∷ kept es)
      has_it es stands test = stands.1 test ∙ ap (λ t. volume_of test (cond t ((e.stamp, e.volume) ∷ kept es) (kept es))) needed

      -- one that is there may go
      pub is_there : (es : List Element) → StandsFor (window_of b) (e ∷ es) → may_go (get b e.stamp) e.volume ≡ true
      is_there es stands = may-go-alike b e.stamp e.volume (kept es) (has_it es stands) stands.0.0.0 (short-filter (is_needed seconds moment) (lines_of es) stands.0.1)

      -- and goes
      pub goes : may_go (get b e.stamp) e.volume ≡ true → (es : List Element) → StandsFor (window_of b) (e ∷ es) → StandsFor (window_of (taken b e.stamp e.volume)) es
      goes may es stands = (
        stands.0.1,
        alike-rest (e.stamp, e.volume) (entries (taken b e.stamp e.volume)) (kept es) (λ test. alike-taken b e.stamp e.volume may test ∙ has_it es stands test),
      )

  -- what is due of the lines is what the range has of the elements
  pub shows : (b : BucketsMap) (found : Partial) → IsSumOf moment b found → (es : List Element) → StandsFor (window_of b) es → found ≡ in_range seconds moment es
  shows b found sum es stands =
      sum.1
      ∙ partial_in-alike (is_due moment) (entries b) (kept es) (have-lines _ (short-entries b sum.0)) (have-lines _ (short-filter (is_needed seconds moment) (lines_of es) stands.0)) stands.1
      ∙ ap (λ ls. partial_of (map run_of ls)) (filter-both (λ line. is_needed seconds moment line.0) (λ line. is_due moment line.0) (lines_of es))

  -- and is within the most lines
  pub within : (b : BucketsMap) (found : Partial) (lines : ℕ) → IsWindow seconds moment b found lines most → IsWithin most found
  within b found lines is = within-more (count_of b) most found (let room = is.room in let counted = is.counted in omega (arith, room, counted)) (subst (IsWithin (count_of b)) (sym is.sum.1) (within-partial_in (is_due moment) b is.sum.0))
