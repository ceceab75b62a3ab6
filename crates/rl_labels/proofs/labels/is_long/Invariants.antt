-- The labels that are left are too long for the room exactly where the whole text is too long.
use Rattle.std.proofs.Common.{◌≡◌, drop, length, nat_lt}
use Rattle.rl_labels.specs.LabelText.{labels_text}
use Rattle.rl_labels.specs.Pairs.{longest_text}
use Rattle.rl_labels.proofs.TextLengths.{marked}
use Rattle.rl_labels.proofs.labels.is_long.Given as goal

abbrev pub invariant-loop-label : goal.invariant-loop-label
invariant-loop-label l = nat_lt l.room (length (marked (drop l.label-index l.labels))) ≡ nat_lt longest_text (length (labels_text l.labels))
