-- The stages so far.
use Rattle.std.proofs.Common.{◌≡◌, map, take}
use Rattle.rl_pipeline.specs.Steps.{code_stage, step_stage}
use Rattle.rl_pipeline.proofs.running.Running.new.Given as goal

abbrev pub invariant-loop-code : goal.invariant-loop-code
invariant-loop-code l = map step_stage l.steps.items ≡ map code_stage (take l.code-index l.codes)
