-- Whether two are one follows from their codes.
use Rattle.rl_rules.specs.SameCoded.{same_answer}
use Rattle.rl_rules.specs.contracts.rule.Rule as rule_type
use Rattle.rl_rules.proofs.rule.RulePartialEq.eq.Goals as goal

pub returns-clause-coded : goal.returns-clause-coded
returns-clause-coded c = same_answer rule_type.the_row.coded c.is_same.result c.args.self.now c.args.other.now c.is_same.ensures
