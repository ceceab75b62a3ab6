-- The first divisor is the partner, or no divisor is.
use Rattle.std.proofs.Common.{sym, ◌∙◌}
use Rattle.rl_aggregate.proofs.Dividing.{by_first, by_none}
use Rattle.rl_aggregate.proofs.ratio.value_over.Goals as goal

pub returns-then-eq : goal.returns-then-eq
returns-then-eq c = c.quotient.ensures ∙ by_first c.args.sample.now c.partner-item.result c.args.divisors.now c.in-len1-up.len_at_least c.partner-item.is (sym c.eq.ensures ∙ c.if-eq.true)

pub returns-else-eq : goal.returns-else-eq
returns-else-eq c = by_none c.args.sample.now c.partner-item.result c.args.divisors.now c.in-len1-up.len_at_least c.partner-item.is c.requires.order c.requires.from (sym c.eq.ensures ∙ c.if-eq.false)
