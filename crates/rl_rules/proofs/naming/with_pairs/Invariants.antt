-- The pairs that are left go over what is made so far.
use Rattle.std.proofs.Common.{◌≡◌, drop}
use Rattle.rl_rules.specs.Outcomes.{with_pairs}
use Rattle.rl_rules.proofs.naming.with_pairs.Given as goal

abbrev pub invariant-loop-pair : goal.invariant-loop-pair
invariant-loop-pair l = with_pairs l.made (drop l.pair-index l.pairs) ≡ with_pairs l.labels l.pairs
