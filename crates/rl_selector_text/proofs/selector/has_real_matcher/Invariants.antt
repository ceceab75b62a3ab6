-- None of the matchers so far is real.
use Rattle.std.proofs.Common.{◌≡◌, false, take}
use Rattle.rl_query.specs.Limits.{has_real_matcher}
use Rattle.rl_selector_text.proofs.selector.has_real_matcher.Given as goal

abbrev pub invariant-loop-matcher : goal.invariant-loop-matcher
invariant-loop-matcher l = has_real_matcher (take l.matcher-index l.matchers) ≡ false
