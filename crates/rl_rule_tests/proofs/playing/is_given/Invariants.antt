-- None of the evaluations so far is of the group.
use Rattle.std.proofs.Common.{◌≡◌, drop}
use Rattle.rl_rule_tests.specs.Playing.{is_given}
use Rattle.rl_rule_tests.proofs.playing.is_given.Given as goal

abbrev pub invariant-loop-evaluation : goal.invariant-loop-evaluation
invariant-loop-evaluation l = is_given (drop l.evaluation-index l.evaluations) l.name ≡ is_given l.evaluations l.name
