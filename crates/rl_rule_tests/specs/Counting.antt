-- How many checks passed and failed, and which ones pass.
use Rattle.std.specs.Prelude.{◌≡◌, ℕ, ◌+◌, ◌-◌, ◌^◌, min, Bool, true, false, ◌&&◌, List, [], ◌∷◌, ◌++◌, map, codes, if◌then◌else◌}
use Rattle.std.specs.Fmt.{decimal}
use Rattle.std.specs.List.{flat_map}
use Rattle.rl_rules.specs.declared.evaluation.Evaluation.{Evaluation}
use Rattle.rl_rules.specs.declared.evaluation.RuleResult.{RuleResult}
use Rattle.rl_rule_tests.specs.declared.document.Check.{Check}
use Rattle.rl_rule_tests.specs.declared.rows.Outcome.{Outcome}
use Rattle.rl_rule_tests.specs.declared.report.Report.{Report}
use Rattle.rl_rule_tests.specs.Judging.{agrees, failure_of, form, results_of, rows_of, wanted_row, IsOutcome}

pub record Counts : Type 0 where
  pub passed : ℕ
  pub failed : ℕ

abbrev pub counts_of : Report → Counts
counts_of report = record { passed = report.passed; failed = report.failed }

abbrev pub no_counts : Counts
no_counts = record { passed = 0; failed = 0 }

-- one more, up to the greatest number of 64 bits
abbrev pub one_more : ℕ → ℕ
one_more count = min (count + 1) (2 ^ 64 - 1)

abbrev pub one_passed : Counts → Counts
one_passed counts = record { passed = one_more counts.passed; failed = counts.failed }

abbrev pub one_failed : Counts → Counts
one_failed counts = record { passed = counts.passed; failed = one_more counts.failed }

abbrev pub one_failed_if : Bool → Counts → Counts
one_failed_if refused counts = if refused then one_failed counts else counts

-- the last line
abbrev pub counted_text : Counts → List ℕ
counted_text counts = decimal counts.passed ++ codes " passed, " ++ decimal counts.failed ++ codes " failed\n"

-- there are some
abbrev pub are_some : {A : Type 0} → List A → Bool
are_some [] = false
are_some (x ∷ xs) = true

-- rules gave something, and this is what is wanted
abbrev pub passes : List RuleResult → Outcome → Outcome → Bool
passes results wanted given = are_some results && agrees wanted.failed given.failed (map form wanted.rows.items) (map form given.rows.items)

-- a check passes where rules of its name gave something, and this is what is wanted of them
pub record IsJudged (check : Check) (evaluations : List Evaluation) (is_met : Bool) : Type 0 where
  pub wanted : Outcome
  pub given : Outcome
  pub is_wanted : IsOutcome check.failed (map wanted_row check.wanted.items) wanted
  pub is_given : IsOutcome (failure_of (results_of check evaluations)) (flat_map rows_of (results_of check evaluations)) given
  pub met : is_met ≡ passes (results_of check evaluations) wanted given

-- a check is counted as passed where it passes, and else as failed
abbrev pub IsCounted : Check → List Evaluation → Counts → Counts → Type 0
IsCounted check evaluations old new = (is_met : Bool) × IsJudged check evaluations is_met × (new ≡ (if is_met then one_passed old else one_failed old))
