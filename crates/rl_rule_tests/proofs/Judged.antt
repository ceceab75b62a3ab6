-- A check is judged by what its rules gave.
use Rattle.std.proofs.Common.{◌≡◌, Bool, List, map, subst}
use Rattle.std.specs.List.{flat_map}
use Rattle.rl_rules.specs.declared.evaluation.Evaluation.{Evaluation}
use Rattle.rl_rules.specs.declared.evaluation.RuleResult.{RuleResult}
use Rattle.rl_rule_tests.specs.declared.document.Check.{Check}
use Rattle.rl_rule_tests.specs.declared.rows.Outcome.{Outcome}
use Rattle.rl_rule_tests.specs.Counting.{passes, IsJudged}
use Rattle.rl_rule_tests.specs.Judging.{failure_of, results_of, rows_of, wanted_row, IsOutcome}

pub judged : (check : Check) (evaluations : List Evaluation) (results : List RuleResult) (wanted given : Outcome) (is_met : Bool)
    → results ≡ results_of check evaluations → IsOutcome check.failed (map wanted_row check.wanted.items) wanted → IsOutcome (failure_of results) (flat_map rows_of results) given → is_met ≡ passes results wanted given → IsJudged check evaluations is_met
judged check evaluations results wanted given is_met same is_wanted is_given met = record {
  wanted = wanted;
  given = given;
  is_wanted = is_wanted;
  is_given = subst (λ all. IsOutcome (failure_of all) (flat_map rows_of all) given) same is_given;
  met = subst (λ all. is_met ≡ passes all wanted given) same met;
}
