-- What rules of the check gave in the evaluations so far.
use Rattle.std.proofs.Common.{◌≡◌, map, take}
use Rattle.rl_rule_tests.specs.Judging.{results_of}
use Rattle.rl_rule_tests.proofs.judging.results_of.Given as goal

abbrev pub invariant-loop-evaluation : goal.invariant-loop-evaluation
invariant-loop-evaluation l = map (λ one. one.now) l.results.items ≡ results_of l.check (take l.evaluation-index l.evaluations)
