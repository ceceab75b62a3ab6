-- What rules of the check gave so far follows the others.
use Rattle.std.proofs.Common.{◌≡◌, ◌++◌, map, take}
use Rattle.std.specs.List.{filter}
use Rattle.rl_rule_tests.specs.Judging.{is_of}
use Rattle.rl_rule_tests.proofs.judging.push_results.Given as goal

abbrev pub invariant-loop-outcome : goal.invariant-loop-outcome
invariant-loop-outcome l = map (λ one. one.now) l.results.items ≡ map (λ one. one.now) l.fn.results.items ++ filter (is_of l.check) (take l.outcome-index l.outcomes)
