-- Those that are left decide whether all are named well.
use Rattle.std.proofs.Common.{◌≡◌, drop}
use Rattle.toml.specs.View.{items_view}
use Rattle.rl_rules.specs.Document.{tables_of, groups_are_named_well}
use Rattle.rl_rules.proofs.names.groups_are_named_well.Given as goal

abbrev pub invariant-loop-item : goal.invariant-loop-item
invariant-loop-item l = groups_are_named_well (tables_of (items_view (drop l.item-index l.items))) ≡ groups_are_named_well (tables_of (items_view l.items))
