-- What lines add up to is within the limits for their number: of two partials together, of a run more, of one line more, and of entries.
use Rattle.std.specs.Prelude.{◌≡◌, ℕ, ◌+◌, ◌*◌, ◌≤◌, ◌^◌, List, [], ◌∷◌, ◌++◌, map, length, Option, None, Some, option_to_list, refl}
use Rattle.std.specs.List.{filter}
use Rattle.std.specs.FinMap.{len-empty}
use Rattle.std.proofs.Common.{sym, subst, append-nil, arith}
use Rattle.std.proofs.lemmas.List.Sums.{length-filter, count_by-le-length}
use Rattle.rl_labels.specs.EntryParts.{longest_line}
use Rattle.rl_labels.specs.LabelSet.{LabelSet}
use Rattle.rl_labels.specs.LabelText.{label_set_cmp}
use Rattle.rl_labels.specs.declared.entry.Entry.{Entry}
use Rattle.rl_pipeline.specs.Running.{run}
use Rattle.rl_query.specs.declared.query.Term.{Term}
use Rattle.rl_query.specs.declared.stages.Stage.{Stage}
use Rattle.rl_aggregate.specs.InRange.{line_run, runs_of, entry_runs, is_selected}
use Rattle.rl_aggregate.specs.Limited.{IsLimited, IsWithin}
use Rattle.rl_aggregate.specs.Partials.{merge, most_entries, partial, partial_of, Fits}
use Rattle.rl_aggregate.specs.Runs.{with_volume, with_run}
use Rattle.rl_aggregate.specs.laws.Runs.{partial_of-more}
use Rattle.rl_aggregate.specs.laws.Sums.{len-both_totals, counts-both_totals, bytes-both_totals, len-added, counts-added, bytes-added, sum_of-empty, total_at-sum_of}
use Rattle.rl_aggregate.specs.declared.volume.Volume.{Volume}
use Rattle.rl_aggregate.specs.declared.run.Run.{Run}
use Rattle.rl_aggregate.specs.declared.partial.Partial.{Partial}

-- what fewer lines may, more may too
pub within-more : (fewer more : ℕ) (found : Partial) → fewer ≤ more → IsWithin fewer found → IsWithin more found
within-more fewer more found less within = record {
  sets = let sets = within.sets in omega (arith, less, sets);
  counts = let counts = within.counts in omega (arith, less, counts);
  bytes = let bytes = within.bytes in omega (arith, less, bytes);
}

-- two together
pub within-merge : (first second : ℕ) (a b : Partial) → IsWithin first a → IsWithin second b → IsWithin (first + second) (merge a b)
within-merge first second a b of_a of_b = record {
  sets = let x = of_a.sets in let y = of_b.sets in omega (arith, x, y, len-both_totals a.totals b.totals);
  counts = let x = of_a.counts in let y = of_b.counts in omega (arith, x, y, counts-both_totals a.totals b.totals);
  bytes = let x = of_a.bytes in let y = of_b.bytes in omega (arith, x, y, bytes-both_totals a.totals b.totals);
}

-- what is within them fits
pub within-fits : (lines : ℕ) (found : Partial) → IsWithin lines found → lines ≤ most_entries → Fits found
within-fits lines found within few =
    let counts = within.counts in
    let bytes = within.bytes in (
      omega (arith, counts, few),
      λ labels. (
        omega (arith, counts, few, total_at-sum_of (λ total. total.count) refl found.totals labels),
        omega (arith, bytes, few, total_at-sum_of (λ total. total.bytes) refl found.totals labels),
      ),
    )

-- no line
pub within-none : IsWithin 0 (partial_of [])
within-none = record {
  sets = omega (arith, len-empty label_set_cmp Volume);
  counts = omega (arith, sum_of-empty (λ total. total.count));
  bytes = omega (arith, sum_of-empty (λ total. total.bytes));
}

by_labels : (lines : ℕ) (found : Partial) (labels : Option LabelSet) (volume : Volume) → 1 ≤ volume.count → volume.bytes ≤ volume.count * longest_line → IsWithin lines found → IsWithin (lines + volume.count) (with_volume labels volume found)
by_labels lines found None volume some short within = record {
  sets = let sets = within.sets in omega (arith, sets);
  counts = let counts = within.counts in omega (arith, counts);
  bytes = let bytes = within.bytes in omega (arith, bytes);
}
by_labels lines found (Some k) volume some short within = record {
  sets = let sets = within.sets in omega (arith, sets, some, len-added found.totals k volume);
  counts = let counts = within.counts in omega (arith, counts, counts-added found.totals k volume);
  bytes = let bytes = within.bytes in omega (arith, bytes, short, bytes-added found.totals k volume);
}

-- a run more
pub within-run : (lines : ℕ) (found : Partial) (run : Run) → 1 ≤ run.volume.count → run.volume.bytes ≤ run.volume.count * longest_line → IsWithin lines found → IsWithin (lines + run.volume.count) (with_run run found)
within-run lines found run some short within = by_labels lines found run.labels run.volume some short within

-- what a line counts as and other runs
within-runs_of : (lines : ℕ) (stages : List Stage) (labels : LabelSet) (text : List ℕ) (runs : List Run) → length text ≤ longest_line → IsWithin lines (partial_of runs) → IsWithin (lines + 1) (partial_of (runs_of stages labels text ++ runs))
within-runs_of lines stages labels text runs fits within = elim (run stages text labels) as (λ found. IsWithin (lines + 1) (partial_of (map (λ labels_after. line_run labels_after (length text)) (option_to_list found) ++ runs))) [
  | None ↦ within-more lines (lines + 1) (partial_of runs) (omega arith) within
  | Some labels_after ↦
      let one = line_run labels_after (length text) in
      subst (IsWithin (lines + 1)) (sym (partial_of-more one runs)) (within-run lines (partial_of runs) one (omega arith) (omega (arith, fits)) within)
]

-- one line more
pub within-line : (lines : ℕ) (found : Partial) (stages : List Stage) (labels : LabelSet) (text : List ℕ) → length text ≤ longest_line → IsWithin lines found → IsWithin (lines + 1) (merge found (partial_of (runs_of stages labels text)))
within-line lines found stages labels text fits within = within-merge lines 1 found _ within (subst (λ runs. IsWithin 1 (partial_of runs)) (append-nil (runs_of stages labels text)) (within-runs_of 0 stages labels text [] fits within-none))

-- the lines of entries
within-entries : (stages : List Stage) (entries : List Entry) → IsWithin (length entries) (partial_of (entry_runs stages entries))
within-entries stages [] = within-none
within-entries stages (e ∷ es) = within-more (length es + 1) (length (e ∷ es)) _ (omega arith) (within-runs_of (length es) stages e.labels e.line (entry_runs stages es) e.fits (within-entries stages es))

pub within-partial : (entries : List Entry) (term : Term) (t : ℕ) → IsWithin (length entries) (partial entries term t)
within-partial entries term t =
    let selected = filter (is_selected term t) entries in
    within-more (length selected) (length entries) (partial entries term t) (omega (arith, length-filter (is_selected term t) entries, count_by-le-length (is_selected term t) entries)) (within-entries term.range.stages selected)

-- those of at most 2^30 entries are within the limits of a term
pub partial-limited : (entries : List Entry) (term : Term) (t : ℕ) → length entries ≤ 2 ^ 30 → IsLimited (partial entries term t)
partial-limited entries term t few =
    let within = within-partial entries term t in
    let sets = within.sets in
    let counts = within.counts in
    let bytes = within.bytes in
    record { sets = omega (arith, sets, few); counts = omega (arith, counts, few); bytes = omega (arith, bytes, few) }

-- the partials of few enough entries fit together
pub merge_fits : (a b : Partial) (first second : List Entry) (term : Term) (t : ℕ) → a ≡ partial first term t → b ≡ partial second term t → length first + length second ≤ most_entries → Fits (merge a b)
merge_fits a b first second term t of_first of_second few =
    let here = subst (IsWithin (length first)) (sym of_first) (within-partial first term t) in
    let there = subst (IsWithin (length second)) (sym of_second) (within-partial second term t) in
    within-fits (length first + length second) (merge a b) (within-merge (length first) (length second) a b here there) few
