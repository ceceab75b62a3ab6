-- The matchers so far.
use Rattle.std.proofs.Common.{◌≡◌, take}
use Rattle.rl_labels.proofs.selector.SelectorCode.build.Given as goal

abbrev pub invariant-loop-matcher : goal.invariant-loop-matcher
invariant-loop-matcher l = l.codes.items ≡ take l.matcher-index l.matchers
