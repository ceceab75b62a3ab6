-- The parts so far and one more have no more entries than all.
use Rattle.std.proofs.Common.{arith}
use Rattle.rl_parts.proofs.Leaving.{count_up_to}
use Rattle.rl_parts.proofs.plan.count_parts.Goals as goal

pub overflow_add-count : goal.overflow_add-count
overflow_add-count c =
    let le = count_up_to c.args.parts.now c.loop-part.part-index c.part-item.result c.loop-part-test.true c.part-item.is in
    omega (arith, le, c.loop-part.invariant, c.len.ensures, c.requires)
