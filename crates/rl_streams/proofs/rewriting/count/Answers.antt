-- One stream more.
use Rattle.std.proofs.Common.{arith}
use Rattle.rl_streams.proofs.Plans.{joined_more, joined_up_to}
use Rattle.rl_streams.proofs.rewriting.count.Goals as goal

pub len-count-requires : goal.len-count-requires
len-count-requires c =
    let le = joined_up_to c.args.streams.now.entries c.loop-position.position c.index.result.now c.index.ensures in
    omega (arith, le, c.requires, c.ranges.most.fits)

pub overflow_add-count : goal.overflow_add-count
overflow_add-count c =
    let le = joined_up_to c.args.streams.now.entries c.loop-position.position c.index.result.now c.index.ensures in
    omega (arith, le, c.requires, c.ranges.most.fits, c.loop-position.invariant, c.len-count.ensures)

pub loop-position-preserved : goal.loop-position-preserved
loop-position-preserved c =
    let more = joined_more c.args.streams.now.entries c.loop-position.position c.index.result.now c.index.ensures in
    omega (arith, more, c.loop-position.invariant, c.len-count.ensures)
