-- What lines add to the windows of a range.
use Rattle.std.specs.Prelude.{◌≡◌, ℕ, ◌+◌, ◌≤◌, List, Option, None, length, option_to_list, if◌then◌else◌}
use Rattle.std.specs.List.{flat_map}
use Rattle.std.specs.Option.{option_map}
use Rattle.rl_labels.specs.Selects.{selects}
use Rattle.rl_labels.specs.declared.entry.Entry.{Entry}
use Rattle.rl_pipeline.specs.Lines.{StreamLine}
use Rattle.rl_pipeline.specs.Metering.{Metered}
use Rattle.rl_pipeline.specs.Running.{run}
use Rattle.rl_query.specs.declared.query.Term.{Term}
use Rattle.rl_query.specs.declared.stages.Stage.{Stage}
use Rattle.rl_aggregate.specs.InRange.{line_run}
use Rattle.rl_aggregate.specs.declared.run.Run.{Run}
use Rattle.rl_windows.specs.declared.element.Element.{Element}
use Rattle.rl_windows.specs.declared.range.RangeCode.{RangeCode}

-- the range of a term, built
abbrev pub code_of : Term → RangeCode
code_of term = record { selector = term.range.selector.matchers; pipeline = term.range.stages }

-- lines that count as a run, at their timestamp
abbrev pub element_of : (timestamp : ℕ) → Run → Element
element_of timestamp run = record { stamp = record { timestamp = timestamp; labels = run.labels }; volume = run.volume }

-- what a line of a stream that is selected adds to windows of a range: nothing where a stage leaves it out
abbrev pub line_element : List Stage → StreamLine → (timestamp : ℕ) → Option Element
line_element stages line timestamp = option_map (λ labels_after. element_of timestamp (line_run labels_after (length line.text))) (run stages line.text line.labels)

-- and what any line adds
abbrev pub element_for : RangeCode → StreamLine → (timestamp : ℕ) → Option Element
element_for code line timestamp = if selects code.selector line.labels then line_element code.pipeline line timestamp else None

-- the same of the line of an entry, and of those of many
abbrev pub entry_elements : RangeCode → Entry → List Element
entry_elements code entry = option_to_list (element_for code (record { labels = entry.labels; text = entry.line }) entry.timestamp)

abbrev pub elements_for : RangeCode → List Entry → List Element
elements_for code entries = flat_map (entry_elements code) entries

-- at most so many runs were counted, and nothing else
abbrev pub HasRuns : ℕ → Metered → Metered → Type 0
HasRuns runs before after = (after.visits ≡ before.visits) × (after.runs ≤ before.runs + runs)
