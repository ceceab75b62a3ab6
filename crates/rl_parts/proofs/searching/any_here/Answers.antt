-- Each turn looks into the next part.
use Rattle.rl_parts.specs.Reading.{in_memory}
use Rattle.rl_parts.proofs.Finding.{yes, no, not_both, absent_part, absent_parts, found_part}
use Rattle.rl_parts.proofs.searching.any_here.Goals as goal

pub returns-then-has_here : goal.returns-then-has_here
returns-then-has_here c = yes (found_part in_memory c.args.parts.now c.loop-part.part-index c.part-item.result c.args.entry.now c.loop-part-test.true c.part-item.is (c.has_here.ensures.0 c.if-has_here.true))

pub loop-part-preserved : goal.loop-part-preserved
loop-part-preserved c = absent_part in_memory c.args.parts.now c.loop-part.part-index c.part-item.result c.args.entry.now c.loop-part-test.true c.part-item.is c.loop-part.invariant (λ there. not_both (c.has_here.ensures.1 there) c.if-has_here.false)

pub returns : goal.returns
returns c = no (absent_parts in_memory c.args.parts.now c.loop-part.part-index c.args.entry.now c.loop-part-test.false c.loop-part.invariant)
