-- A moment more.
use Rattle.std.proofs.Common.{arith}
use Rattle.std.proofs.lemmas.Grind.{common_steps}
use Rattle.rl_rule_tests.proofs.Moments.{moments_next}
use Rattle.rl_rule_tests.proofs.events.push_steps.Goals as goal

pub loop-preserved : goal.loop-preserved
loop-preserved c = grind (arith, common_steps, moments_next)
