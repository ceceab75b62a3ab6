-- The terms of the rules so far.
use Rattle.std.proofs.Common.{◌≡◌, take, flat_map}
use Rattle.rl_aggregate.specs.Evaluated.{terms_of}
use Rattle.rl_world.proofs.evaluating.terms_of_group.Given as goal

abbrev pub invariant-loop-rule : goal.invariant-loop-rule
invariant-loop-rule l = l.terms.items ≡ flat_map (λ rule. terms_of rule.query) (take l.rule-index l.rule-items)
