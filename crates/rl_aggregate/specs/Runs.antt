-- One run of lines more or less in a partial.
use Rattle.std.specs.Prelude.{◌≡◌, ◌≤◌, ◌+◌, ◌-◌, nat_le, Bool, false, List, ◌∷◌, Option, None, Some, IfSome}
use Rattle.std.specs.List.{AllByRecursion}
use Rattle.std.specs.FinMap.{get}
use Rattle.rl_labels.specs.LabelSet.{LabelSet}
use Rattle.rl_aggregate.specs.InRange.{has_error}
use Rattle.rl_aggregate.specs.Partials.{partial_of}
use Rattle.rl_aggregate.specs.TotalsMap.{added, taken, has_volume}
use Rattle.rl_aggregate.specs.declared.volume.Volume.{Volume}
use Rattle.rl_aggregate.specs.declared.run.Run.{Run}
use Rattle.rl_aggregate.specs.declared.partial.Partial.{Partial}

-- a partial with a volume more: of a label set, or of lines with an error
abbrev pub with_volume : Option LabelSet → Volume → Partial → Partial
with_volume None volume found = record { errors = found.errors + volume.count; totals = found.totals }
with_volume (Some labels) volume found = record { errors = found.errors; totals = added found.totals labels volume }

-- and with a volume less
abbrev pub without_volume : Option LabelSet → Volume → Partial → Partial
without_volume None volume found = record { errors = found.errors - volume.count; totals = found.totals }
without_volume (Some labels) volume found = record { errors = found.errors; totals = taken found.totals labels volume }

-- a partial has at least the volume
abbrev pub has_at_least : Option LabelSet → Volume → Partial → Bool
has_at_least None volume found = nat_le volume.count found.errors
has_at_least (Some labels) volume found = has_volume (get found.totals labels) volume

-- the same of a run
abbrev pub with_run : Run → Partial → Partial
with_run run found = with_volume run.labels run.volume found

abbrev pub without_run : Run → Partial → Partial
without_run run found = without_volume run.labels run.volume found

abbrev pub has_run : Run → Partial → Bool
has_run run found = has_at_least run.labels run.volume found

-- the labels that a run has are without an error
abbrev pub IsProper : Run → Type 0
IsProper run = IfSome run.labels (λ labels. has_error labels ≡ false)

-- a run has a line
abbrev pub HasLine : Run → Type 0
HasLine run = 1 ≤ run.volume.count

-- where the first partial is of some runs, the second is of these and one more
abbrev pub IsOneMore : Run → Partial → Partial → Type 0
IsOneMore run before after = (runs : List Run) → before ≡ partial_of runs → after ≡ partial_of (run ∷ runs)

-- where the first partial is of a run and of others, each with a line, the second is of the others
abbrev pub IsOneLess : Run → Partial → Partial → Type 0
IsOneLess run before after = (runs : List Run) → AllByRecursion HasLine runs → before ≡ partial_of (run ∷ runs) → after ≡ partial_of runs
