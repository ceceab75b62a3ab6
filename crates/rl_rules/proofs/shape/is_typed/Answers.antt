-- Each key is tested.
use Rattle.std.proofs.Common.{sym, ◌∙◌, rules, tests}
use Rattle.std.proofs.lemmas.Iterator.{YieldsList-from_slice}
use Rattle.std.proofs.lemmas.Iterator.Search.{all_from_yields_List}
use Rattle.std.proofs.lemmas.List.Folds.{list_all-map}
use Rattle.toml.specs.View.{table_view}
use Rattle.rl_rules.specs.Forms.{key_form}
use Rattle.rl_rules.specs.Document.{has_kind}
use Rattle.rl_rules.proofs.shape.is_typed.Goals as goal

pub returns : goal.returns
returns c =
    all_from_yields_List (λ key. has_kind (table_view c.args.table.now) (key_form key)) _ _ c.all.result c.all.ensures.ran (YieldsList-from_slice c.args.keys.now cc) (λ x b q k. search (rules, tests))
    ∙ sym (list_all-map (has_kind (table_view c.args.table.now)) key_form c.args.keys.now)
