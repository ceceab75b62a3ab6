-- The stages so far are line filters.
use Rattle.std.proofs.Common.{◌≡◌, ℕ, List, drop, map}
use Rattle.rl_labels.specs.LabelSet.{LabelSet}
use Rattle.rl_pipeline.specs.Running.{labels_after}
use Rattle.rl_pipeline.specs.Steps.{step_stage}
use Rattle.rl_pipeline.proofs.running.filters_in_front.Given as goal

abbrev pub invariant-loop-position : goal.invariant-loop-position
invariant-loop-position l = (line : List ℕ) (labels : LabelSet) → labels_after (map step_stage l.steps) line labels ≡ labels_after (map step_stage (drop l.position l.steps)) line labels
