-- The closure tests the value.
use Rattle.std.proofs.Common.{rules}
use Rattle.std.proofs.lemmas.List.Elements.{filter_from_retain}
use Rattle.rl_labels.specs.Rising.{has_value}
use Rattle.rl_labels.proofs.labels.keep_values.Goals as goal

pub returns : goal.returns
returns c = filter_from_retain _ has_value (λ f x b g h. search rules) _ _ _ c.retain.ensures.filtered
