-- The rows so far, and why a rule so far failed.
use Rattle.std.proofs.Common.{◌≡◌, drop, map, take}
use Rattle.std.specs.List.{flat_map}
use Rattle.rl_rule_tests.specs.Judging.{failure_of_rest, failure_of, form, rows_of}
use Rattle.rl_rule_tests.proofs.judging.given.Given as goal

abbrev pub invariant-loop-one : goal.invariant-loop-one
invariant-loop-one l = record {
  rows : map form l.rows.items ≡ flat_map rows_of (map (λ one. one.now) (take l.one-index l.results));
  failed : failure_of_rest l.failed (map (λ one. one.now) (drop l.one-index l.results)) ≡ failure_of (map (λ one. one.now) l.results);
}
