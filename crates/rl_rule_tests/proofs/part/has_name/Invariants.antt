-- None of the pairs so far has the name.
use Rattle.std.proofs.Common.{◌≡◌, drop}
use Rattle.std.specs.List.{list_any}
use Rattle.rl_labels.specs.Name.{is_text}
use Rattle.rl_rule_tests.proofs.part.has_name.Given as goal

abbrev pub invariant-loop-pair : goal.invariant-loop-pair
invariant-loop-pair l = list_any (λ pair. is_text pair.0 l.name) (drop l.pair-index l.pairs) ≡ list_any (λ pair. is_text pair.0 l.name) l.pairs
