-- The lines that the range of a term has at a moment, as runs of lines that count alike.
use Rattle.std.specs.Prelude.{ℕ, ◌+◌, ◌*◌, nat_lt, nat_le, Bool, not, ◌&&◌, List, map, length, codes, None, Some, option_to_list, if◌then◌else◌}
use Rattle.std.specs.List.{filter, flat_map}
use Rattle.rl_labels.specs.LabelSet.{LabelSet, value_of, is_empty}
use Rattle.rl_labels.specs.Selects.{selects}
use Rattle.rl_labels.specs.declared.entry.Entry.{Entry}
use Rattle.rl_pipeline.specs.Running.{run}
use Rattle.rl_query.specs.declared.stages.Stage.{Stage}
use Rattle.rl_query.specs.declared.query.Term.{Term}
use Rattle.rl_aggregate.specs.declared.run.Run.{Run}

-- a second, in nanoseconds
abbrev pub second : ℕ
second = 1000000000

-- t - r < ts <= t; the window may begin below 0, so the range stands beside the timestamp
abbrev pub in_window : ℕ → ℕ → ℕ → Bool
in_window seconds t timestamp = nat_lt t (timestamp + seconds * second) && nat_le timestamp t

-- a pipeline could not make sense of the line
abbrev pub has_error : LabelSet → Bool
has_error labels = not (is_empty (value_of labels (codes "__error__")))

-- a line with its labels after the stages, and its bytes: a run of one
abbrev pub line_run : LabelSet → ℕ → Run
line_run labels bytes = record { labels = if has_error labels then None else Some labels; volume = record { count = 1; bytes = bytes } }

-- what a line of a stream counts as after stages: nothing where they leave it out
abbrev pub runs_of : List Stage → LabelSet → List ℕ → List Run
runs_of stages labels text = map (λ labels_after. line_run labels_after (length text)) (option_to_list (run stages text labels))

-- what the lines of entries count as
abbrev pub entry_runs : List Stage → List Entry → List Run
entry_runs stages entries = flat_map (λ entry. runs_of stages entry.labels entry.line) entries

-- the window has the entry, and the selector selects its stream
abbrev pub is_selected : Term → ℕ → Entry → Bool
is_selected term t entry = in_window term.range.seconds t entry.timestamp && selects term.range.selector.matchers entry.labels

abbrev pub in_range : List Entry → Term → ℕ → List Run
in_range entries term t = entry_runs term.range.stages (filter (is_selected term t) entries)
