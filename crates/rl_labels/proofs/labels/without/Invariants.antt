-- The labels so far, but the one with the name.
use Rattle.std.proofs.Common.{◌≡◌, not, take}
use Rattle.std.specs.FinMap.Entries.{where_key}
use Rattle.rl_labels.specs.Name.{name_cmp, is_text}
use Rattle.rl_labels.proofs.labels.without.Given as goal

abbrev pub invariant-loop-label : goal.invariant-loop-label
invariant-loop-label l = l.kept.items ≡ where_key name_cmp (λ other. not (is_text l.name other)) (take l.label-index l.labels)
