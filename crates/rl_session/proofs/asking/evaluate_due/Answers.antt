-- A group more.
use Rattle.std.proofs.Common.{arith}
use Rattle.rl_session.proofs.Calling.{due_next}
use Rattle.rl_session.proofs.asking.evaluate_due.Goals as goal

pub loop-group-preserved : goal.loop-group-preserved
loop-group-preserved g c =
    let loop = c.loop-group in
    record {
      room = omega (arith, loop.invariant.room, c.loop-group-test.true, c.groups-group-end.ensures, c.evaluate_if_due.ensures.len, c.evaluate_if_due.ensures.capacity);
      so_far = due_next g.E.Engine.calls c.args.engine.now c.args.now loop.group loop.results.items loop.engine c.evaluate_if_due.new.results.items c.evaluate_if_due.new.engine loop.invariant.so_far c.evaluate_if_due.ensures.turn;
    }
