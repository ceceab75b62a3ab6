-- Each item is tested.
use Rattle.std.proofs.Common.{is_some, sym, ◌∙◌, rules, tests}
use Rattle.std.proofs.lemmas.Iterator.{YieldsList-from_slice}
use Rattle.std.proofs.lemmas.Iterator.Search.{all_from_yields_List}
use Rattle.toml.specs.Data.{as_table}
use Rattle.toml.specs.View.{view}
use Rattle.rl_rules.proofs.Shapes.{tables_items}
use Rattle.rl_rules.proofs.shape.are_tables.Goals as goal

pub returns : goal.returns
returns c = all_from_yields_List (λ v. is_some (as_table (view v))) _ _ c.all.result c.all.ensures.ran (YieldsList-from_slice c.args.items.now cc) (λ x b q k. search (rules, tests)) ∙ sym (tables_items c.args.items.now)
