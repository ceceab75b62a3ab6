-- A moment more.
use Rattle.std.proofs.Common.{arith}
use Rattle.std.proofs.lemmas.Grind.{common_steps}
use Rattle.rl_rule_tests.proofs.Expansions.{repeated_next}
use Rattle.rl_rule_tests.proofs.streams.push_repeated.Goals as goal

pub loop-index-preserved : goal.loop-index-preserved
loop-index-preserved c = grind (arith, common_steps, repeated_next)
