-- The items so far are what the tables so far say, and nothing but tables came.
use Rattle.std.proofs.Common.{◌≡◌, drop}
use Rattle.toml.specs.View.{items_view}
use Rattle.rl_rules.specs.Document.{are_tables, tables_of}
use Rattle.rl_rule_tests.proofs.After.{SoFar}
use Rattle.rl_rule_tests.proofs.part.Part.push_all.Given as goal

abbrev pub invariant-loop-index : goal.invariant-loop-index
invariant-loop-index g l = (are_tables (items_view l.value-items) ≡ are_tables (items_view (drop l.index l.value-items))) × SoFar (g.T.Item.is l.self.kind l.self.rule.now) (tables_of (items_view l.value-items)) (tables_of (items_view (drop l.index l.value-items))) l.fn.all.items l.all.items
