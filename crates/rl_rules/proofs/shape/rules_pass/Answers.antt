-- Each item that is a table passes the test.
use Rattle.std.proofs.Common.{true, sym, ◌∙◌, rules, tests}
use Rattle.std.proofs.lemmas.Iterator.{YieldsList-from_slice}
use Rattle.std.proofs.lemmas.Iterator.Search.{all_from_yields_List}
use Rattle.std.specs.Option.{option_map_or}
use Rattle.toml.specs.Data.{as_table}
use Rattle.toml.specs.View.{view}
use Rattle.rl_rules.specs.Document.{passes, rule_passes}
use Rattle.rl_rules.proofs.Shapes.{tables_of_items}
use Rattle.rl_rules.proofs.shape.rules_pass.Goals as goal

pub returns : goal.returns
returns c =
    all_from_yields_List (λ v. option_map_or (rule_passes (passes c.args.test)) (as_table (view v)) true) _ _ c.all.result c.all.ensures.ran (YieldsList-from_slice c.args.items.now cc) (λ x b q k. search (rules, tests))
    ∙ sym (tables_of_items (rule_passes (passes c.args.test)) c.args.items.now)
