-- The labels so far stand at the end, each after a comma.
use Rattle.std.proofs.Common.{◌≡◌, ◌++◌, ◌∷◌, take, string_bytes}
use Rattle.std.specs.List.{flat_map}
use Rattle.rl_labels.specs.LabelText.{label_text}
use Rattle.rl_labels.proofs.labels.push_others.Given as goal

abbrev pub invariant-loop-label : goal.invariant-loop-label
invariant-loop-label l = string_bytes l.text ≡ string_bytes l.fn.text ++ flat_map (λ label. 44 ∷ label_text label) (take l.label-index l.labels)
