-- How far the sink has come.
use Rattle.std.proofs.Common.{◌≡◌, ◌-◌, ◌≤◌, false, length}
use Rattle.rl_world.specs.Offering.{offered_to}
use Rattle.rl_world.proofs.offering.offer.Given as goal

abbrev pub invariant-loop-next : goal.invariant-loop-next
invariant-loop-next g l =
    let state = g.S.Sink.state in
    record {
      more : (state l.fn.sink).count ≤ l.next;
      few : l.next ≤ length l.evaluations;
      offered : state l.sink ≡ offered_to l.evaluations (state l.fn.sink) l.next false;
    }

abbrev pub decreases-loop-next : goal.decreases-loop-next
decreases-loop-next g l = length l.evaluations - l.next
