-- What absent_over_time gives of totals is what it gives of the lines that they are of.
use Rattle.std.specs.Prelude.{◌≡◌, ◌≤◌, ℕ, zero, suc, ◌==◌, nat_lt, true, false, cond, List, [], ◌∷◌, length, Option, Some, None, refl}
use Rattle.std.specs.List.{AllByRecursion}
use Rattle.std.specs.FinMap.{get, len, empty_of_len, get-empty, len-empty}
use Rattle.std.proofs.Common.{sym, ap, ◌∙◌, arith}
use Rattle.std.proofs.lemmas.Bool.{ltb-false}
use Rattle.std.proofs.lemmas.Bool.Decides.{nat_tests}
use Rattle.std.proofs.lemmas.Option.{none-some}
use Rattle.rl_labels.specs.LabelSet.{LabelSet}
use Rattle.rl_labels.specs.LabelText.{label_set_cmp}
use Rattle.rl_labels.specs.declared.entry.Entry.{Entry}
use Rattle.rl_query.specs.declared.query.Term.{Term}
use Rattle.rl_query.specs.declared.query.RangeFunction.TheVariants as functions
use Rattle.rl_aggregate.specs.Absence.{absence, absent_sample}
use Rattle.rl_aggregate.specs.Evaluated.{samples_by, range_value, absent_of}
use Rattle.rl_aggregate.specs.InRange.{in_range}
use Rattle.rl_aggregate.specs.Partials.{volume_at, totals_of, partial_of, partial}
use Rattle.rl_aggregate.specs.Runs.{with_volume, HasLine}
use Rattle.rl_aggregate.specs.TotalsMap.{TotalsMap, plus, total_at, added}
use Rattle.rl_aggregate.specs.laws.Runs.{entry_lines, partial_of-more}
use Rattle.rl_aggregate.specs.laws.Totals.{get-added, ties_itself}
use Rattle.rl_aggregate.specs.declared.volume.Volume.{Volume}
use Rattle.rl_aggregate.specs.declared.run.Run.{Run}
use Rattle.rl_aggregate.specs.declared.partial.Partial.{Partial}
use Rattle.rl_aggregate.specs.declared.outcome.Outcome.TheVariants as outcomes

more : (n : ℕ) → (suc n == 0) ≡ false
more n = grind (arith, nat_tests)

-- where a line is added that has no error, there are totals
some_total : (totals : TotalsMap) (k : LabelSet) (v : Volume) (n : ℕ) → len (added totals k v) ≡ n → (n == 0) ≡ false
some_total totals k v zero none =
    let sum = plus (total_at totals k) v in
    let found : get (added totals k v) k ≡ Some sum = get-added totals k v k ∙ ap (λ b. cond b (Some sum) (get totals k)) (ties_itself k) in
    absurd (none-some sum (sym (ap (λ m. get m k) (empty_of_len (added totals k v) none) ∙ get-empty label_set_cmp k) ∙ found))
some_total totals k v (suc n) is = more n

len-more : (labels : Option LabelSet) (volume : Volume) (found : Partial) → 1 ≤ volume.count → (with_volume labels volume found).errors ≡ 0 → (len (with_volume labels volume found).totals == 0) ≡ false
len-more None volume found some good = absurd (omega (arith, some, good))
len-more (Some k) volume found some good = some_total found.totals k volume _ refl

-- without an error there are totals exactly where there are runs
len-totals_of : (runs : List Run) → AllByRecursion HasLine runs → (volume_at runs None).count ≡ 0 → (len (totals_of runs) == 0) ≡ (length runs == 0)
len-totals_of [] lines good = ap (λ n. n == 0) (len-empty label_set_cmp Volume)
len-totals_of (run ∷ runs) lines good =
    let same = partial_of-more run runs in
    ap (λ (found : Partial). len found.totals == 0) same
    ∙ len-more run.labels run.volume (partial_of runs) lines.0 (sym (ap (λ (found : Partial). found.errors) same) ∙ good)
    ∙ sym (more (length runs))

-- so an absence of totals is one of lines
pub absent-runs : (term : Term) (entries : List Entry) (t : ℕ) → term.function ≡ functions.AbsentOverTime → range_value term (partial entries term t) ≡ absent_of (in_range entries term t) term.range.selector.matchers
absent-runs term entries t is =
    let runs = in_range entries term t in
    let matchers = term.range.selector.matchers in
    let errors = (volume_at runs None).count in
    ap (λ f. cond (nat_lt 0 errors) outcomes.Failed (outcomes.Vector (samples_by f term (totals_of runs)))) is
    ∙ elim (nat_lt 0 errors) as (λ b. nat_lt 0 errors ≡ b → cond b outcomes.Failed (outcomes.Vector (absence matchers (totals_of runs))) ≡ cond b outcomes.Failed (outcomes.Vector (cond (length runs == 0) (absent_sample matchers ∷ []) []))) [
      | true ↦ λ _. refl
      | false ↦ λ good. ap (λ b. outcomes.Vector (cond b (absent_sample matchers ∷ []) [])) (len-totals_of runs (entry_lines term.range.stages _) (omega (arith, ltb-false 0 errors good)))
    ] refl
