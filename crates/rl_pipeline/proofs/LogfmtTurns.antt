-- One turn of the pairs of a line.
use Rattle.std.proofs.Common.{◌≡◌, ℕ, suc, ◌+◌, ◌-◌, ◌<◌, true, false, cond, List, [], ◌∷◌, Option, Some, None, refl, sym, ap, ◌∙◌, arith}
use Rattle.std.specs.Option.{option_map_or}
use Rattle.std.proofs.lemmas.Bool.{cond-true, cond-false}
use Rattle.rl_labels.specs.LabelSet.{LabelSet, Pair, is_empty}
use Rattle.rl_pipeline.specs.Extracting.{with_pair, with_pairs}
use Rattle.rl_plain.specs.Runs.{run_at}
use Rattle.rl_pipeline.specs.LogfmtPairs.{is_blank, pair_at, pairs_in}

-- the pairs of what is left, where more turns may come
left : (total turns : ℕ) (rest start : List ℕ) → turns < total → start ≡ (run_at is_blank rest).1
    → pairs_in (total - turns) rest ≡ cond (is_empty start) [] (option_map_or (λ pair. pair ∷ pairs_in (total - (turns + 1)) (pair_at start).1) (pair_at start).0 (pairs_in (total - (turns + 1)) (pair_at start).1))
left total turns rest start inside is =
    let more : total - turns ≡ suc (total - (turns + 1)) = omega (arith, inside) in
    ap (λ n. pairs_in n rest) more
    ∙ ap (λ s. cond (is_empty s) [] (option_map_or (λ pair. pair ∷ pairs_in (total - (turns + 1)) (pair_at s).1) (pair_at s).0 (pairs_in (total - (turns + 1)) (pair_at s).1))) (sym is)

-- nothing is left
pub ended : (stream labels whole : LabelSet) (total turns : ℕ) (rest start : List ℕ) → turns < total → start ≡ (run_at is_blank rest).1 → is_empty start ≡ true
    → with_pairs stream labels (pairs_in (total - turns) rest) ≡ whole → labels ≡ whole
ended stream labels whole total turns rest start inside is none so_far =
    sym (ap (with_pairs stream labels) (left total turns rest start inside is ∙ cond-true (is_empty start) _ _ none)) ∙ so_far

-- what stands at the front is a pair, or none
pub turned : (stream labels next whole : LabelSet) (total turns : ℕ) (rest start following : List ℕ) (pair : Option Pair) → turns < total → start ≡ (run_at is_blank rest).1 → is_empty start ≡ false
    → ◌≡◌ {A = Option Pair × List ℕ} (pair, following) (pair_at start) → next ≡ option_map_or (with_pair stream labels) pair labels
    → with_pairs stream labels (pairs_in (total - turns) rest) ≡ whole → with_pairs stream next (pairs_in (total - (turns + 1)) following) ≡ whole
turned stream labels next whole total turns rest start following pair inside is some read next_is so_far =
    let most = total - (turns + 1) in
    ap (λ l. with_pairs stream l (pairs_in most following)) next_is
    ∙ by_pair pair most
    ∙ ap (λ (x : Option Pair × List ℕ). with_pairs stream labels (option_map_or (λ p. p ∷ pairs_in most x.1) x.0 (pairs_in most x.1))) read
    ∙ sym (ap (with_pairs stream labels) (left total turns rest start inside is ∙ cond-false (is_empty start) _ _ some))
    ∙ so_far
  where
    by_pair : (o : Option Pair) (most : ℕ) → with_pairs stream (option_map_or (with_pair stream labels) o labels) (pairs_in most following) ≡ with_pairs stream labels (option_map_or (λ p. p ∷ pairs_in most following) o (pairs_in most following))
    by_pair None most = refl
    by_pair (Some p) most = refl
