-- Whether what rules gave is what is wanted of them.
use Rattle.std.specs.Prelude.{◌≡◌, ℕ, ◌*◌, ◌^◌, ◌==◌, nat_lt, Bool, true, false, ◌&&◌, ◌||◌, List, [], ◌∷◌, map, Option, None, Some, if◌then◌else◌}
use Rattle.std.specs.Option.{option_map}
use Rattle.std.specs.List.{filter, flat_map}
use Rattle.std.specs.List.Sorted.{IsPermutation, IsSorted, IsStable}
use Rattle.std.specs.Cmp.Lexicographic.{pointwise}
use Rattle.std.specs.declared.cmp.Ordering.{Ordering}
use denote.Ref.{Bor}
use Rattle.rl_labels.specs.LabelSet.{LabelSet}
use Rattle.rl_labels.specs.LabelText.{label_set_cmp, label_set_eq}
use Rattle.rl_labels.specs.Name.{is_text}
use Rattle.rl_aggregate.specs.declared.outcome.Fraction.{Fraction}
use Rattle.rl_aggregate.specs.declared.outcome.Sample.{Sample}
use Rattle.rl_rules.specs.declared.alert.Alert.{Alert}
use Rattle.rl_rules.specs.declared.alert.AlertState.{AlertState}
use Rattle.rl_rules.specs.declared.alert.AlertState.TheVariants as states
use Rattle.rl_rules.specs.declared.evaluation.Cause.{Cause}
use Rattle.rl_rules.specs.declared.evaluation.Cause.TheVariants as causes
use Rattle.rl_rules.specs.declared.evaluation.Evaluation.{Evaluation}
use Rattle.rl_rules.specs.declared.evaluation.RuleOutcome.{RuleOutcome}
use Rattle.rl_rules.specs.declared.evaluation.RuleOutcome.TheVariants as made
use Rattle.rl_rules.specs.declared.evaluation.RuleResult.{RuleResult}
use Rattle.rl_rules.specs.declared.rule.RuleKind.{RuleKind}
use Rattle.rl_rules.specs.declared.rule.RuleKind.TheVariants as kinds
use Rattle.rl_rule_tests.specs.declared.document.Check.{Check}
use Rattle.rl_rule_tests.specs.declared.rows.Outcome.{Outcome}
use Rattle.rl_rule_tests.specs.declared.rows.Row.{Row}
use Rattle.rl_rule_tests.specs.declared.wanted.Wanted.{Wanted}

-- an alert or a sample as it is compared. Of what is wanted it has no state, value or annotations where these are not looked at
pub record RowForm : Type 0 where
  pub labels : LabelSet
  pub state : Option AlertState
  pub value : Option Fraction
  pub annotations : Option LabelSet

abbrev pub form : Row → RowForm
form row = record { labels = row.labels.now; state = row.state; value = option_map (λ number. number.fraction) row.value; annotations = option_map (λ labels. labels.now) row.annotations }

-- what is wanted
abbrev pub wanted_row : Wanted → RowForm
wanted_row row = record { labels = row.labels; state = row.state; value = option_map (λ number. number.fraction) row.value; annotations = row.annotations }

-- what a rule gave
abbrev pub sample_row : Sample → RowForm
sample_row sample = record { labels = sample.labels; state = None; value = Some sample.value; annotations = None }

abbrev pub alert_row : LabelSet → Alert → RowForm
alert_row annotations alert = record { labels = alert.labels; state = Some alert.state; value = Some alert.value; annotations = Some annotations }

abbrev pub rows_in : LabelSet → RuleOutcome → List RowForm
rows_in annotations (made.Samples samples) = map sample_row samples
rows_in annotations (made.Alerts alerts) = map (alert_row annotations) alerts
rows_in annotations (made.Failed cause) = []

abbrev pub rows_of : RuleResult → List RowForm
rows_of result = rows_in result.annotations result.outcome

-- why a rule failed, or one before it
abbrev pub failure_after : Option Cause → RuleOutcome → Option Cause
failure_after failed (made.Samples samples) = failed
failure_after failed (made.Alerts alerts) = failed
failure_after failed (made.Failed cause) = Some cause

abbrev pub failure_of_rest : Option Cause → List RuleResult → Option Cause
failure_of_rest failed [] = failed
failure_of_rest failed (result ∷ results) = failure_of_rest (failure_after failed result.outcome) results

-- why the last of rules that failed did
abbrev pub failure_of : List RuleResult → Option Cause
failure_of results = failure_of_rest None results

-- WHICH RULES

abbrev pub is_kind : RuleKind → RuleKind → Bool
is_kind kinds.Recording kinds.Recording = true
is_kind kinds.Alerting kinds.Alerting = true
is_kind kind other = false

-- a group that is named, if one is, has the name
abbrev pub is_named : Option (Bor (List ℕ)) → List ℕ → Bool
is_named None name = true
is_named (Some group) name = is_text group.now name

-- a rule of the check gave it
abbrev pub is_of : Check → RuleResult → Bool
is_of check result = is_kind result.kind check.kind && is_text result.name check.name.now

-- what the rules of a check gave, in the evaluations of their groups
abbrev pub results_in : Check → Evaluation → List RuleResult
results_in check evaluation = if is_named check.group evaluation.group then filter (is_of check) evaluation.outcomes else []

abbrev pub results_of : Check → List Evaluation → List RuleResult
results_of check evaluations = flat_map (results_in check) evaluations

-- AGREEMENT

-- one value: fractions that are written alike, or whose products over cross are equal, and not too large for 128 bits
abbrev pub are_equal : Fraction → Fraction → Bool
are_equal one other =
    (one.numerator == other.numerator && one.denominator == other.denominator)
    || (nat_lt (one.numerator * other.denominator) (2 ^ 128) && one.numerator * other.denominator == other.numerator * one.denominator)

abbrev pub is_state : AlertState → AlertState → Bool
is_state states.Pending states.Pending = true
is_state states.Firing states.Firing = true
is_state states.Resolved states.Resolved = true
is_state state other = false

abbrev pub is_cause : Cause → Cause → Bool
is_cause causes.PipelineError causes.PipelineError = true
is_cause causes.SameLabels causes.SameLabels = true
is_cause causes.LimitExceeded causes.LimitExceeded = true
is_cause cause other = false

-- what is wanted is there by the test, or nothing is wanted
abbrev pub has : {A : Type 0} → (A → A → Bool) → Option A → Option A → Bool
has test None given = true
has test (Some wanted) None = false
has test (Some wanted) (Some given) = test wanted given

abbrev pub has_state : Option AlertState → Option AlertState → Bool
has_state = has is_state

abbrev pub has_value : Option Fraction → Option Fraction → Bool
has_value = has are_equal

abbrev pub has_annotations : Option LabelSet → Option LabelSet → Bool
has_annotations = has label_set_eq

-- a row is one that is wanted
abbrev pub meets : RowForm → RowForm → Bool
meets wanted given = label_set_eq wanted.labels given.labels && (has_state wanted.state given.state && (has_value wanted.value given.value && has_annotations wanted.annotations given.annotations))

-- the same failure, or rows that meet each other one by one
abbrev pub agrees : Option Cause → Option Cause → List RowForm → List RowForm → Bool
agrees None None wanted given = pointwise meets wanted given
agrees (Some cause) (Some other) wanted given = is_cause cause other
agrees _ _ wanted given = false

abbrev pub row_cmp : Row → Row → Ordering
row_cmp row other = label_set_cmp row.labels.now other.labels.now

-- the same rows in the order of their label sets; those with one label set stay in their order
pub record IsInOrder (rows sorted : List Row) : Type 0 where
  pub same : IsPermutation rows sorted
  pub in_order : IsSorted row_cmp sorted
  pub stable : IsStable row_cmp rows sorted

-- a failure, and rows of these forms in that order
pub record IsOutcome (failed : Option Cause) (forms : List RowForm) (outcome : Outcome) : Type 0 where
  pub failed_so : outcome.failed ≡ failed
  pub rows : List Row
  pub forms_are : map form rows ≡ forms
  pub order : IsInOrder rows outcome.rows.items
