-- What an evaluation gives, from scratch on the lists that shards showed.
use Rattle.std.specs.Prelude.{ℕ, List, [], ◌∷◌, map, drop, option_to_list, flat_map, slice_index_or}
use Rattle.rl_labels.specs.declared.entry.Entry.{Entry}
use Rattle.rl_query.specs.declared.query.Term.{Term}
use Rattle.rl_aggregate.specs.Evaluated.{terms_of, evaluated}
use Rattle.rl_aggregate.specs.declared.outcome.Outcome.{Outcome}
use Rattle.rl_rules.specs.Outcomes.{result_of}
use Rattle.rl_rules.specs.declared.alert.Alert.{Alert}
use Rattle.rl_rules.specs.declared.rule.Rule.{Rule}
use Rattle.rl_rules.specs.declared.rule.Group.{Group}
use Rattle.rl_rules.specs.declared.evaluation.RuleResult.{RuleResult}
use Rattle.rl_rules.specs.declared.evaluation.Evaluation.{Evaluation}
use Rattle.rl_world.specs.declared.opened.Gathered.{Gathered}
use Rattle.rl_world.specs.declared.opened.OpenEvaluation.{OpenEvaluation}

-- the terms of a group's rules, in their order
abbrev pub group_terms : Group → List Term
group_terms group = flat_map (λ rule. terms_of rule.query) group.rules

-- what was gathered of the shards that were asked, in the order of the shards
abbrev pub answers : {X : Type 0} → OpenEvaluation X → List (Gathered X)
answers opened = flat_map option_to_list opened.gathered

-- the alerts of the first rule, none where none are known
abbrev pub first_alerts : List (List Alert) → List Alert
first_alerts alerts = slice_index_or alerts 0 []

-- each rule with its own alerts
abbrev pub results_of : ℕ → ℕ → (Rule → Outcome) → List Rule → List (List Alert) → List RuleResult
results_of limit t outcome [] alerts = []
results_of limit t outcome (rule ∷ rules) alerts = result_of limit t rule (first_alerts alerts) (outcome rule) ∷ results_of limit t outcome rules (drop 1 alerts)

-- an evaluation of the group with these results
abbrev pub evaluation_with : {X : Type 0} → Group → OpenEvaluation X → List RuleResult → Evaluation
evaluation_with group opened outcomes = record { group = group.name; t = opened.t; places = map (λ answer. answer.place) (answers opened); outcomes = outcomes }

-- the lists that the shards showed, one after the other
abbrev pub shown_entries : OpenEvaluation (List Entry) → List Entry
shown_entries opened = flat_map (λ answer. answer.shown) (answers opened)

-- from scratch: each rule's query on all entries that were shown
abbrev pub evaluation_of : Group → List (List Alert) → OpenEvaluation (List Entry) → Evaluation
evaluation_of group alerts opened = evaluation_with group opened (results_of group.limit opened.t (λ rule. evaluated (shown_entries opened) rule.query opened.t) group.rules alerts)
