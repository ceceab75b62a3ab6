-- The terms so far have the selector of the first.
use Rattle.std.proofs.Common.{get_or}
use Rattle.rl_shard.proofs.windows.alike_len.Goals as goal

pub returns-else-is_same-clause-of_one : goal.returns-else-is_same-clause-of_one
returns-else-is_same-clause-of_one c = ((get_or c.args.terms.now 0 c.index-terms-0.result).now.range.selector.matchers, c.loop-len.invariant.alike)

pub returns-after-loop-len-clause-of_one : goal.returns-after-loop-len-clause-of_one
returns-after-loop-len-clause-of_one c = ((get_or c.args.terms.now 0 c.index-terms-0.result).now.range.selector.matchers, c.loop-len.invariant.alike)
