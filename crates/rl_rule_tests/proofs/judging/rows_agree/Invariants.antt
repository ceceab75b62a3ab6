-- The rows that are left agree where all do.
use Rattle.std.proofs.Common.{◌≡◌, drop, map, length}
use Rattle.std.specs.Cmp.Lexicographic.{pointwise}
use Rattle.rl_rule_tests.specs.Judging.{form, meets}
use Rattle.rl_rule_tests.proofs.judging.rows_agree.Given as goal

abbrev pub invariant-loop-index : goal.invariant-loop-index
invariant-loop-index l = record {
  same : length l.wanted ≡ length l.given;
  left : pointwise meets (map form (drop l.index l.wanted)) (map form (drop l.index l.given)) ≡ pointwise meets (map form l.wanted) (map form l.given);
}
