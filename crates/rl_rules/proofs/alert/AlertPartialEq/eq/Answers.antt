-- Whether two are one follows from their codes.
use Rattle.rl_rules.specs.SameCoded.{same_answer}
use Rattle.rl_rules.specs.contracts.alert.Alert as alert_type
use Rattle.rl_rules.proofs.alert.AlertPartialEq.eq.Goals as goal

pub returns-clause-coded : goal.returns-clause-coded
returns-clause-coded c = same_answer alert_type.the_row.coded c.is_same.result c.args.self.now c.args.other.now c.is_same.ensures
