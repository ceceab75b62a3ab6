-- The matchers so far that are asked accept the label set.
use Rattle.std.proofs.Common.{◌≡◌, true, take}
use Rattle.rl_labels.specs.Selects.{selects_by}
use Rattle.rl_labels.proofs.selector.all_accept.Given as goal

abbrev pub invariant-loop-code : goal.invariant-loop-code
invariant-loop-code l = selects_by l.by_pattern (take l.code-index l.codes) l.labels ≡ true
