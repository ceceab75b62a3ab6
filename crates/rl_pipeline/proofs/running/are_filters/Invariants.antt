-- Each stage so far is a line filter.
use Rattle.std.proofs.Common.{◌≡◌, true, take}
use Rattle.std.specs.List.{list_all}
use Rattle.rl_pipeline.specs.Running.{is_filter}
use Rattle.rl_pipeline.specs.Steps.{step_stage}
use Rattle.rl_pipeline.proofs.running.are_filters.Given as goal

abbrev pub invariant-loop-step : goal.invariant-loop-step
invariant-loop-step l = list_all (λ step. is_filter (step_stage step)) (take l.step-index l.steps) ≡ true
