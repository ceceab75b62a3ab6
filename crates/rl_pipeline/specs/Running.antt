-- What becomes of a line that goes through stages. Line filters read the line as it was pushed, wherever they stand.
use Rattle.std.specs.Prelude.{◌≡◌, ℕ, Bool, true, false, not, ◌&&◌, ◌||◌, List, [], ◌∷◌, Option, Some, None, if◌then◌else◌}
use Rattle.std.specs.List.{list_all}
use Rattle.std.specs.Option.{option_and_then}
use Rattle.rl_labels.specs.LabelSet.{LabelSet}
use Rattle.rl_query.specs.declared.stages.Stage.{Stage}
use Rattle.rl_query.specs.declared.stages.Stage.TheVariants.{Filter, Parser, Tests}
use Rattle.rl_pipeline.specs.Building.{is_by_pattern}
use Rattle.rl_pipeline.specs.Filtering.{passes}
use Rattle.rl_pipeline.specs.LabelTests.{tests_answer}
use Rattle.rl_pipeline.specs.Parsed.{parsed}

-- the labels that a line has, where it stays
abbrev pub where_true : Bool × LabelSet → Option LabelSet
where_true answer = if answer.0 then Some answer.1 else None

-- the labels that a line has after a stage, if it stays
abbrev pub stage_run : Stage → (line : List ℕ) → LabelSet → Option LabelSet
stage_run (Filter filter) line labels = where_true (passes filter line, labels)
stage_run (Parser parser) line labels = Some (parsed parser labels line)
stage_run (Tests tests) line labels = where_true (tests_answer tests labels)

-- and after all stages, from left to right
abbrev pub run : List Stage → (line : List ℕ) → LabelSet → Option LabelSet
run [] line labels = Some labels
run (stage ∷ stages) line labels = option_and_then (run stages line) (stage_run stage line labels)

-- the line passes the stage, if it is a line filter
abbrev pub lets_pass : Stage → (line : List ℕ) → Bool
lets_pass (Filter filter) line = passes filter line
lets_pass _ line = true

-- each line filter lets the line pass
abbrev pub keeps : List Stage → (line : List ℕ) → Bool
keeps stages line = list_all (λ stage. lets_pass stage line) stages

-- the labels that a line which each line filter lets pass has after a stage, and after all of them
abbrev pub kept_run : Stage → (line : List ℕ) → LabelSet → Option LabelSet
kept_run (Filter filter) line labels = Some labels
kept_run stage line labels = stage_run stage line labels

abbrev pub labels_after : List Stage → (line : List ℕ) → LabelSet → Option LabelSet
labels_after [] line labels = Some labels
labels_after (stage ∷ stages) line labels = option_and_then (labels_after stages line) (kept_run stage line labels)

-- the stage is a line filter
abbrev pub is_filter : Stage → Bool
is_filter (Filter filter) = true
is_filter _ = false

-- a line filter in front leaves the line out by its text, and none before it is by pattern
abbrev pub text_leaves_out : List Stage → (line : List ℕ) → Bool
text_leaves_out (Filter filter ∷ stages) line = not (is_by_pattern filter) && (not (passes filter line) || text_leaves_out stages line)
text_leaves_out _ line = false

-- lines keep the labels of their stream, and only line filters leave them out
abbrev pub IsPlain : List Stage → Type 0
IsPlain stages = (line : List ℕ) (labels : LabelSet) → run stages line labels ≡ (if keeps stages line then Some labels else None)
