-- The rows of the samples so far follow the others.
use Rattle.std.proofs.Common.{◌≡◌, ◌++◌, map, take}
use Rattle.rl_rule_tests.specs.Judging.{form, sample_row}
use Rattle.rl_rule_tests.proofs.judging.push_samples.Given as goal

abbrev pub invariant-loop-sample : goal.invariant-loop-sample
invariant-loop-sample l = map form l.rows.items ≡ map form l.fn.rows.items ++ map sample_row (take l.sample-index l.samples)
