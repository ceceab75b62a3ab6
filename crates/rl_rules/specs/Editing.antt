-- What an edit hands on: each new rule in order takes the alerts of the first old rule that is equal and was not yet taken.
use Rattle.std.specs.Prelude.{List, [], ◌∷◌, Option, None, Some, unwrap_or, if◌then◌else◌}
use Rattle.rl_rules.specs.declared.alert.Alert.{Alert}
use Rattle.rl_rules.specs.declared.rule.Rule.{Rule}
use Rattle.rl_rules.specs.SameRule.{is_same_rule}

-- the alerts of the first old rule that is equal to this one, if there is one, and the old rules without it
abbrev pub taken : Rule → List (Rule × List Alert) → Option (List Alert) × List (Rule × List Alert)
taken rule [] = (None, [])
taken rule (old ∷ olds) = if is_same_rule old.0 rule then (Some old.1, olds) else ((taken rule olds).0, old ∷ (taken rule olds).1)

-- each new rule in order, with none where there is no such rule
abbrev pub handed_on : List Rule → List (Rule × List Alert) → List (List Alert)
handed_on [] olds = []
handed_on (rule ∷ rules) olds = unwrap_or (taken rule olds).0 [] ∷ handed_on rules (taken rule olds).1
