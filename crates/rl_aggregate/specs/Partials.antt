-- What the lines of a range add up to, and how two such sums are merged.
use Rattle.std.specs.Prelude.{◌≡◌, ℕ, ◌+◌, ◌<◌, ◌^◌, Bool, List, map, ◌++◌, Option, None, Some, if◌then◌else◌}
use Rattle.std.specs.List.{filter_map, sum_by}
use Rattle.std.specs.Option.{option_eq}
use Rattle.std.specs.Ordering.{eq_by_cmp}
use Rattle.std.specs.FinMap.{from_entries, keys}
use Rattle.rl_labels.specs.LabelSet.{LabelSet}
use Rattle.rl_labels.specs.LabelText.{label_set_cmp}
use Rattle.rl_labels.specs.declared.entry.Entry.{Entry}
use Rattle.rl_query.specs.declared.query.Term.{Term}
use Rattle.rl_aggregate.specs.InRange.{in_range}
use Rattle.rl_aggregate.specs.TotalsMap.{TotalsMap, plus, total_at}
use Rattle.rl_aggregate.specs.declared.volume.Volume.{Volume}
use Rattle.rl_aggregate.specs.declared.run.Run.{Run}
use Rattle.rl_aggregate.specs.declared.partial.Partial.{Partial}

-- the run has these labels, or none where these are none
abbrev pub has_labels : Option LabelSet → Run → Bool
has_labels labels run = option_eq (eq_by_cmp label_set_cmp) labels run.labels

-- the volume of the runs that have these labels, or none
abbrev pub volume_at : List Run → Option LabelSet → Volume
volume_at runs labels = record {
  count = sum_by (λ run. if has_labels labels run then run.volume.count else 0) runs;
  bytes = sum_by (λ run. if has_labels labels run then run.volume.bytes else 0) runs;
}

-- the volume of each label set that a run has
abbrev pub totals_of : List Run → TotalsMap
totals_of runs = from_entries (map (λ labels. (labels, volume_at runs (Some labels))) (filter_map (λ run. run.labels) runs))

-- how many lines have an error, and the totals of the others
abbrev pub partial_of : List Run → Partial
partial_of runs = record { errors = (volume_at runs None).count; totals = totals_of runs }

abbrev pub partial : List Entry → Term → ℕ → Partial
partial entries term t = partial_of (in_range entries term t)

-- each label set of either, with the sum of its totals in both
abbrev pub both_totals : TotalsMap → TotalsMap → TotalsMap
both_totals a b = from_entries (map (λ labels. (labels, plus (total_at a labels) (total_at b labels))) (keys a ++ keys b))

abbrev pub merge : Partial → Partial → Partial
merge a b = record { errors = a.errors + b.errors; totals = both_totals a.totals b.totals }

-- of whichever entries the first two are, the third is of the ones followed by the others
abbrev pub IsOfBoth : Partial → Partial → Partial → Type 0
IsOfBoth a b both = (first second : List Entry) (term : Term) (t : ℕ) → a ≡ partial first term t → b ≡ partial second term t → both ≡ partial (first ++ second) term t

-- the most entries of which a number of 64 bits holds the bytes of all lines, each with at most 65,535
abbrev pub most_entries : ℕ
most_entries = 281479271743489

-- a number of 64 bits holds each number of the total
abbrev pub VolumeFits : Volume → Type 0
VolumeFits total = (total.count < 2 ^ 64) × (total.bytes < 2 ^ 64)

abbrev pub Fits : Partial → Type 0
Fits partial = (partial.errors < 2 ^ 64) × ((labels : LabelSet) → VolumeFits (total_at partial.totals labels))
