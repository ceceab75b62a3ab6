-- When two rules are equal: in all fields, queries compared as read.
use Rattle.std.specs.Prelude.{Bool}
use Rattle.rl_rules.specs.SameCoded.{same_coded}
use Rattle.rl_rules.specs.declared.rule.Rule.{Rule}
use Rattle.rl_rules.specs.contracts.rule.Rule as rule_type

-- whether two rules are equal
abbrev pub is_same_rule : Rule → Rule → Bool
is_same_rule one other = same_coded rule_type.the_row.coded one other
