-- The stages so far.
use Rattle.std.proofs.Common.{◌≡◌, map, take}
use Rattle.rl_pipeline.specs.Steps.{code_stage}
use Rattle.rl_pipeline.proofs.pipeline.Pipeline.of_stages.Given as goal

abbrev pub invariant-loop-stage : goal.invariant-loop-stage
invariant-loop-stage l = map code_stage l.codes.items ≡ take l.stage-index l.stages
