-- Each value is tested.
use Rattle.std.proofs.Common.{is_some, sym, ◌∙◌, rules, tests}
use Rattle.std.specs.Map.{values_of}
use Rattle.std.specs.Map.Iter.{deref}
use Rattle.std.proofs.lemmas.Iterator.Consumers.{YieldsList-from_rest}
use Rattle.std.proofs.lemmas.Iterator.Search.{all_from_yields_List}
use Rattle.toml.specs.Data.{as_str}
use Rattle.toml.specs.View.{view}
use Rattle.rl_rules.proofs.Shapes.{texts_alone}
use Rattle.rl_rules.proofs.values.are_texts.Goals as goal

pub returns : goal.returns
returns c =
    all_from_yields_List (λ v. is_some (as_str (view v))) _ _ c.all.result c.all.ensures.ran (YieldsList-from_rest {shows = deref} (values_of c.args.table.now.entries) c.values.ensures.rest) (λ x b q k. search (rules, tests))
    ∙ sym (texts_alone c.args.table.now.entries)
