-- The rules so far, and the tables that are left.
use Rattle.rl_rules.specs.Forms.{rule_form}
use Rattle.rl_rules.specs.Document.{rule_at}
use Rattle.rl_rules.proofs.Walks.{AreRead}
use Rattle.rl_rules.proofs.reading.rules_from.Given as goal

abbrev pub invariant-loop-item : goal.invariant-loop-item
invariant-loop-item l = AreRead (rule_at l.group) rule_form l.rules.items l.item-index l.items
