-- An item more.
use Rattle.std.proofs.Common.{rules, ◌≡◌, ◌∙◌, ◌+◌, refl, true, [], ◌∷◌, IfSome, drop, arith, ap, sym, subst}
use Rattle.std.proofs.lemmas.Grind.{common_steps}
use Rattle.toml.specs.Data.{as_table, get_member}
use Rattle.toml.specs.View.{items_view, table_view, view}
use Rattle.rl_rules.specs.Document.{are_tables, items_in, tables_of}
use Rattle.rl_rule_tests.specs.Document.{AreAppended}
use Rattle.rl_rule_tests.proofs.After.{SoFar, so_far_none, so_far_next, so_far_all, tables_next, tables_tested, some_table}
use Rattle.rl_rule_tests.proofs.Arrays.{tables_there}
use Rattle.rl_rule_tests.proofs.part.Part.push_all.Goals as goal

pub loop-index-init : goal.loop-index-init
loop-index-init g c = (refl, so_far_none _ _ _)

pub loop-index-preserved : goal.loop-index-preserved
loop-index-preserved g c =
    let values = c.in_ok-value-items.value-items.now in
    let index = c.loop-index.index in
    let next : drop index values ≡ c.value-item.result ∷ drop (index + 1) values = grind (arith, common_steps, c.value-item.is, c.loop-index-test.true) in
    let table = some_table (as_table (view c.value-item.result)) (c.in-Ok.ensures.table refl) in
    (c.loop-index.invariant.0 ∙ tables_tested _ _ _ next (c.in-Ok.ensures.table refl), so_far_next _ _ _ _ table.0 _ _ _ c.in-Ok.item c.loop-index.invariant.1 (tables_next _ _ _ table.0 next table.1) (subst (λ found. IfSome found (λ t. g.T.Item.is c.args.self.kind c.args.self.rule.now t c.in-Ok.item)) table.1 c.in-Ok.ensures.item) c.in_ok-push-in-Ok.ensures.items)

pub returns : goal.returns
returns g c =
    let values = c.in_ok-value-items.value-items.now in
    let key = c.args.array.now in
    let table = table_view c.args.self.table.now in
    let none : drop c.loop-index.index values ≡ [] = grind (arith, common_steps, c.loop-index-test.false) in
    let all = subst (λ left. SoFar (g.T.Item.is c.args.self.kind c.args.self.rule.now) (tables_of (items_view values)) (tables_of (items_view left)) c.args.all.now.items c.loop-index.all.items) none c.loop-index.invariant.1 in
    let tables : are_tables (items_in (get_member key table)) ≡ true = ap are_tables (sym c.in_ok-value-items.ensures.items) ∙ c.loop-index.invariant.0 ∙ ap (λ left. are_tables (items_view left)) none in
    record {
      tables = tables_there (get_member key table) (c.in_ok-value-items.ensures.array (search rules)) tables;
      items = subst (λ items. AreAppended (g.T.Item.is c.args.self.kind c.args.self.rule.now) (tables_of items) c.args.all.now.items c.loop-index.all.items) c.in_ok-value-items.ensures.items (so_far_all _ _ _ _ all);
    }
