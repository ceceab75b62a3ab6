-- The stages that built ones are.
use Rattle.rl_query.specs.declared.stages.Stage.{Stage}
use Rattle.rl_query.specs.declared.stages.Stage.TheVariants.{Filter, Parser, Tests}
use Rattle.rl_pipeline.specs.declared.pipeline.StageCode.{StageCode}
use Rattle.rl_pipeline.specs.declared.pipeline.StageCode.TheVariants as codes
use Rattle.rl_pipeline.specs.declared.running.Step.{Step}
use Rattle.rl_pipeline.specs.declared.running.Step.TheVariants as steps

abbrev pub code_stage : StageCode → Stage
code_stage (codes.Filter filter) = Filter filter
code_stage (codes.Parser parser) = Parser parser
code_stage (codes.Tests tests) = Tests tests

abbrev pub step_stage : Step → Stage
step_stage (steps.Filter search) = Filter search
step_stage (steps.Parser parser) = Parser parser
step_stage (steps.Tests tests) = Tests tests
