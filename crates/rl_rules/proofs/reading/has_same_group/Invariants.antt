-- Those that are left decide whether two have one name.
use Rattle.std.proofs.Common.{◌≡◌, map, drop}
use Rattle.rl_rules.specs.Forms.{group_form}
use Rattle.rl_rules.specs.Document.{has_same_group}
use Rattle.rl_rules.proofs.reading.has_same_group.Given as goal

abbrev pub invariant-loop-index : goal.invariant-loop-index
invariant-loop-index l = has_same_group (map group_form (drop l.index l.groups)) ≡ has_same_group (map group_form l.groups)
