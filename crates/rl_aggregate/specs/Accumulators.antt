-- What the lines of streams add up to after the stages of one pipeline.
use Rattle.std.specs.Prelude.{◌≡◌, ◌≤◌, ℕ, ◌+◌, List, [], Option, None, Some, refl}
use Rattle.std.specs.Coded.{Coded, code_by, coded×, coded_list, coded_ℕ}
use Rattle.rl_labels.specs.LabelSet.{LabelSet}
use Rattle.rl_query.specs.declared.query.Term.{Term}
use Rattle.rl_query.specs.declared.stages.Stage.{Stage}
use Rattle.rl_query.specs.contracts.stages.Stage as stage
use Rattle.rl_aggregate.specs.InRange.{runs_of}
use Rattle.rl_aggregate.specs.Limited.{IsWithin}
use Rattle.rl_aggregate.specs.Partials.{merge, most_entries, partial_of}
use Rattle.rl_aggregate.specs.Runs.{with_run}
use Rattle.rl_aggregate.specs.TotalsMap.{TotalsMap, totals_code}
use Rattle.rl_aggregate.specs.declared.run.Run.{Run}
use Rattle.rl_aggregate.specs.declared.partial.Partial.{Partial}

-- two terms have the same streams and the same window
abbrev pub IsAlike : Term → Term → Type 0
IsAlike lead term = (term.range.seconds ≡ lead.range.seconds) × (term.range.selector ≡ lead.range.selector)

-- the stages of a pipeline, and what the lines that were counted add up to after them
pub record AccumulatorView : Type 0 where
  pub running : List Stage
  pub found : Partial

-- as its parts, for a store
abbrev pub accumulator_code : Coded AccumulatorView
accumulator_code =
    code_by (List Stage × (ℕ × TotalsMap)) (coded× (coded_list stage.the_row.coded) (coded× coded_ℕ totals_code))
    (λ accumulator. (accumulator.running, (accumulator.found.errors, accumulator.found.totals)))
    (λ p. record { running = p.0; found = record { errors = p.1.0; totals = p.1.1 } })
    (λ _. refl)

-- no line so far
abbrev pub nothing_counted : List Stage → AccumulatorView
nothing_counted stages = record { running = stages; found = partial_of [] }

-- an accumulator of one line more
abbrev pub with_line : LabelSet → List ℕ → AccumulatorView → AccumulatorView
with_line labels text accumulator = record { running = accumulator.running; found = merge accumulator.found (partial_of (runs_of accumulator.running labels text)) }

-- what was found with the lines that wait to be added, if any do
abbrev pub with_waiting : Option Run → Partial → Partial
with_waiting None found = found
with_waiting (Some run) found = with_run run found

-- what is a partial of some lines has room for a given number more
abbrev pub HasRoom : ℕ → Partial → Type 0
HasRoom more found = (lines : ℕ) × (lines + more ≤ most_entries) × IsWithin lines found
