-- Totals that are read from lists.
use Rattle.std.proofs.Common.{◌≡◌, ℕ, zero, suc, ◌+◌, ◌<◌, false, List, [], ◌∷◌, length, get_or, drop, Option, Some, None, sym, ap, ◌∙◌, arith}
use Rattle.std.specs.FinMap.{get, insert}
use Rattle.std.specs.Option.{unwrap_or}
use Rattle.std.specs.Prelude.{is_some}
use Rattle.std.proofs.lemmas.Bool.{true≢false}
use Rattle.std.proofs.lemmas.List.{drop_more}
use Rattle.rl_aggregate.specs.TotalsMap.{TotalsMap, added, no_total, plus}
use Rattle.rl_aggregate.specs.declared.volume.Volume.{Volume}
use Rattle.rl_labels.specs.LabelSet.{LabelSet}
use Rattle.rl_plain.specs.Answers.{◌>>=◌, Fails}
use Rattle.rl_plain.specs.declared.refusal.OrMemory.{OrMemory}
use Rattle.rl_plain.specs.declared.refusal.OrMemory.TheVariants.{Fault, Memory}
use Rattle.rl_segments.specs.FrameReading.{Found}
use Rattle.rl_segments.specs.RecordReading.{totals_of, with_total}
use Rattle.rl_segments.specs.declared.fault.RecordFault.{RecordFault}

-- one more
pub one_more : (volumes : List (LabelSet × Volume)) (k : ℕ) (volume : LabelSet × Volume) → k < length volumes → volume ≡ get_or volumes k volume → totals_of (drop k volumes) ≡ (totals_of (drop (k + 1) volumes) >>= λ totals. with_total volume totals)
unfolding totals_of
one_more volumes k volume within is = ap totals_of (drop_more volumes k volume within ∙ ap (λ (first : LabelSet × Volume). first ∷ drop (k + 1) volumes) (sym is))

-- one that is refused makes no totals, nor do those before it
pub refused_from : (volumes : List (LabelSet × Volume)) (k : ℕ) (error : OrMemory RecordFault) → Fails error (totals_of (drop k volumes)) → Fails error (totals_of volumes)
unfolding totals_of
refused_from volumes k Memory refused = tt
refused_from volumes zero (Fault fault) refused = refused
refused_from [] (suc k) (Fault fault) refused = refused
refused_from (volume ∷ volumes) (suc k) (Fault fault) refused = ap (λ (totals : Found TotalsMap). totals >>= with_total volume) (refused_from volumes k (Fault fault) refused)

-- what is added where nothing stands is what stands there
pub new_total : (totals : TotalsMap) (labels : LabelSet) (volume : Volume) → get totals labels ≡ None → added totals labels volume ≡ insert totals labels volume
new_total totals labels volume none = ap (λ found. insert totals labels (plus (unwrap_or found no_total) volume)) none ∙ ap (insert totals labels) (λ i. record { count = zero_first volume.count i; bytes = zero_first volume.bytes i })
  where
    zero_first : (n : ℕ) → 0 + n ≡ n
    zero_first n = omega arith

-- nothing stands there yet
pub nothing_there : (totals : TotalsMap) (labels : LabelSet) (found : Option Volume) → found ≡ get totals labels → is_some found ≡ false → get totals labels ≡ None
nothing_there totals labels (Some volume) is none = absurd (true≢false none)
nothing_there totals labels None is none = sym is
