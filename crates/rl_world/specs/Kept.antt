-- What is kept of lists that shards showed, the partials of the terms, and what an evaluation gives on them.
use Rattle.std.specs.Prelude.{ℕ, zero, suc, List, [], ◌∷◌, map, length, take, drop, slice_index_or}
use Rattle.std.specs.FinMap.{empty}
use Rattle.rl_labels.specs.declared.entry.Entry.{Entry}
use Rattle.rl_query.specs.declared.query.Term.{Term}
use Rattle.rl_aggregate.specs.Evaluated.{terms_of, finished}
use Rattle.rl_aggregate.specs.Partials.{partial, merge}
use Rattle.rl_aggregate.specs.declared.partial.Partial.{Partial}
use Rattle.rl_rules.specs.Outcomes.{result_of}
use Rattle.rl_rules.specs.declared.alert.Alert.{Alert}
use Rattle.rl_rules.specs.declared.rule.Rule.{Rule}
use Rattle.rl_rules.specs.declared.rule.Group.{Group}
use Rattle.rl_rules.specs.declared.evaluation.RuleResult.{RuleResult}
use Rattle.rl_rules.specs.declared.evaluation.Evaluation.{Evaluation}
use Rattle.rl_world.specs.declared.opened.Gathered.{Gathered}
use Rattle.rl_world.specs.declared.opened.OpenEvaluation.{OpenEvaluation}
use Rattle.rl_world.specs.Evaluating.{group_terms, answers, first_alerts, evaluation_with}

-- what is kept of a list: its partial for each term
abbrev pub partials_of : List Entry → List Term → ℕ → List Partial
partials_of entries terms t = map (λ term. partial entries term t) terms

abbrev pub no_partial : Partial
no_partial = record { errors = 0; totals = empty }

-- the merge of what the shards have of one term
abbrev pub merged_from : Partial → ℕ → List (Gathered (List Partial)) → Partial
merged_from sum term [] = sum
merged_from sum term (answer ∷ answers) = merged_from (merge sum (slice_index_or answer.shown term no_partial)) term answers

-- the merge for each of some terms, from one on
abbrev pub merged_terms : ℕ → ℕ → List (Gathered (List Partial)) → List Partial
merged_terms term zero answers = []
merged_terms term (suc more) answers = merged_from no_partial term answers ∷ merged_terms (suc term) more answers

-- each rule with its own alerts on the partials of its own terms, under the limit of the group
abbrev pub results_from : ℕ → ℕ → List Rule → List (List Alert) → List Partial → List RuleResult
results_from limit t [] alerts partials = []
results_from limit t (rule ∷ rules) alerts partials = result_of limit t rule (first_alerts alerts) (finished rule.query (take (length (terms_of rule.query)) partials)) ∷ results_from limit t rules (drop 1 alerts) (drop (length (terms_of rule.query)) partials)

-- the evaluation, on the partials that are kept
abbrev pub evaluation_from : Group → List (List Alert) → OpenEvaluation (List Partial) → Evaluation
evaluation_from group alerts opened = evaluation_with group opened (results_from group.limit opened.t group.rules alerts (merged_terms 0 (length (group_terms group)) (answers opened)))
