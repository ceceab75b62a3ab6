-- Each key is tested.
use Rattle.std.proofs.Common.{sym, ◌∙◌, rules, tests, string_bytes}
use Rattle.std.specs.List.{list_any}
use Rattle.std.specs.Map.{keys_of}
use Rattle.std.specs.Map.Iter.{deref}
use Rattle.std.proofs.lemmas.Iterator.Consumers.{YieldsList-from_rest}
use Rattle.std.proofs.lemmas.Iterator.Search.{all_from_yields_List}
use Rattle.rl_labels.specs.Name.{is_text}
use Rattle.rl_rules.proofs.Shapes.{known_keys}
use Rattle.rl_rules.proofs.shape.is_known.Goals as goal

pub returns : goal.returns
returns c =
    all_from_yields_List (λ name. list_any (λ key. is_text key.0.now (string_bytes name)) c.args.keys.now) _ _ c.all.result c.all.ensures.ran (YieldsList-from_rest {shows = deref} (keys_of c.args.table.now.entries) c.keys.ensures.rest) (λ x b q k. search (rules, tests))
    ∙ sym (known_keys c.args.keys.now c.args.table.now.entries)
