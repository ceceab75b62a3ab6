-- The groups so far, and the tables that are left.
use Rattle.rl_rules.specs.Forms.{group_form}
use Rattle.rl_rules.specs.Document.{group_at}
use Rattle.rl_rules.proofs.Walks.{AreRead}
use Rattle.rl_rules.proofs.reading.groups_from.Given as goal

abbrev pub invariant-loop-item : goal.invariant-loop-item
invariant-loop-item l = AreRead group_at group_form l.groups.items l.item-index l.items
