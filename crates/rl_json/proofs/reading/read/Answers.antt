-- What is read, by the document.
use Rattle.std.proofs.Common.{option_map, option_and_then, sym, ap, ◌∙◌}
use Rattle.json.specs.Value.{value_view}
use Rattle.serde_json.specs.Read.{of_json}
use Rattle.rl_json.proofs.reading.read.Goals as goal

pub returns : goal.returns
returns c = c.in_range_or_none.ensures ∙ ap (λ found. option_and_then of_json (option_map (λ v. value_view v) found)) (sym c.in-Some.is) ∙ ap (option_and_then of_json) c.in_ok-document.ensures
