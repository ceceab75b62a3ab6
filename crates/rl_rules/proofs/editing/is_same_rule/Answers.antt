-- Whether two rules are one follows from their codes.
use Rattle.rl_rules.specs.SameCoded.{same_answer}
use Rattle.rl_rules.specs.contracts.rule.Rule as rule_type
use Rattle.rl_rules.proofs.editing.is_same_rule.Goals as goal

pub returns : goal.returns
returns c = same_answer rule_type.the_row.coded c.is_same.result c.args.one.now c.args.other.now c.is_same.ensures
