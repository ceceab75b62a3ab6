-- What a window stands for at a later moment.
use Rattle.std.proofs.Common.{◌≡◌, ℕ, ◌+◌, ◌-◌, ◌*◌, ◌≤◌, ◌&&◌, nat_le, nat_lt, Bool, true, false, List, refl, ap, ◌∙◌, arith}
use Rattle.std.specs.FinMap.{entries}
use Rattle.std.specs.List.{filter}
use Rattle.std.proofs.lemmas.Bool.{and_from, le-leb, lt-leb, lt-ltb, ltb-true, ltb-false}
use Rattle.rl_aggregate.specs.InRange.{second}
use Rattle.rl_aggregate.specs.laws.Counting.{filter-both}
use Rattle.rl_windows.specs.Buckets.{BucketsMap, volume_of}
use Rattle.rl_windows.specs.Windows.{first_needed, is_needed, lines_of, StandsFor}
use Rattle.rl_windows.specs.laws.Alike.{alike-filter}
use Rattle.rl_windows.proofs.Standing.{window_of}
use Rattle.rl_windows.specs.declared.element.Element.{Element}
use Rattle.rl_windows.specs.declared.element.Stamp.{Stamp}

-- a later moment needs what the first needed and has not left
later_needed : (m t ts r : ℕ) → m ≤ t → (nat_lt m (ts + r) && nat_le (t + 1 - r) ts) ≡ nat_lt t (ts + r)
later_needed m t ts r later = elim (nat_lt t (ts + r)) as (λ b. nat_lt t (ts + r) ≡ b → (nat_lt m (ts + r) && nat_le (t + 1 - r) ts) ≡ b) [
  | true ↦ λ is.
      let lt = ltb-true t (ts + r) is in
      and_from (nat_lt m (ts + r)) (nat_le (t + 1 - r) ts) (lt-ltb m (ts + r) (omega (arith, later, lt))) (le-leb (t + 1 - r) ts (omega (arith, lt)))
  | false ↦ λ is. ap (λ b. nat_lt m (ts + r) && b) (lt-leb (t + 1 - r) ts (omega (arith, ltb-false t (ts + r) is))) ∙ none (nat_lt m (ts + r))
] refl
  where
    none : (b : Bool) → (b && false) ≡ false
    none true = refl
    none false = refl

pub slides : (seconds m t most : ℕ) → m ≤ t → (b b' : BucketsMap) → entries b' ≡ filter (λ line. nat_le (first_needed seconds t) line.0.timestamp) (entries b) → (es : List Element) → StandsFor (window_of seconds m most b) es → StandsFor (window_of seconds t most b') es
slides seconds m t most later b b' left es stands =
    let keep : Stamp → Bool = λ s. nat_le (first_needed seconds t) s.timestamp in (
      stands.0,
      λ test.
          ap (λ ls. volume_of test ls) left
          ∙ alike-filter keep (entries b) (filter (λ line. is_needed seconds m line.0) (lines_of es)) stands.1 test
          ∙ ap (λ ls. volume_of test ls) (
          filter-both (λ line. is_needed seconds m line.0) (λ line. keep line.0) (lines_of es)
          ∙ (λ i. filter (λ line. later_needed m t line.0.timestamp (seconds * second) later i) (lines_of es))
          ),
    )
