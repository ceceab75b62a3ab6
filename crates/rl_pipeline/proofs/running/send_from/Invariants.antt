-- What is left of the stages gives what those from the index on give, and all are as they were.
use Rattle.std.proofs.Common.{◌≡◌, drop, map}
use Rattle.rl_pipeline.specs.Running.{labels_after}
use Rattle.rl_pipeline.specs.Steps.{step_stage}
use Rattle.rl_pipeline.proofs.running.send_from.Given as goal

abbrev pub invariant-loop-index : goal.invariant-loop-index
invariant-loop-index l = record {
  sent : labels_after (map step_stage (drop l.index l.initial.steps)) l.line l.draft ≡ labels_after (map step_stage (drop l.position l.initial.steps)) l.line l.initial.draft;
  same : l.steps ≡ l.initial.steps;
}
