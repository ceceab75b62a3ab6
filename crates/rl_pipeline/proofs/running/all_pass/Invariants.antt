-- The line filters so far let the line pass, and all stages are as they were.
use Rattle.std.proofs.Common.{◌≡◌, true, take}
use Rattle.std.specs.List.{list_all}
use Rattle.rl_pipeline.specs.Running.{lets_pass}
use Rattle.rl_pipeline.specs.Steps.{step_stage}
use Rattle.rl_pipeline.proofs.running.all_pass.Given as goal

abbrev pub invariant-loop-step : goal.invariant-loop-step
invariant-loop-step l = record {
  passed : list_all (λ step. lets_pass (step_stage step) l.line) (take l.step-index l.steps) ≡ true;
  same : l.steps ≡ l.initial.steps;
}
