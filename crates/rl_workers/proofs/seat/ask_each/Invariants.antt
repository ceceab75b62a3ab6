-- The shards so far answered.
use Rattle.rl_workers.specs.Seats.{AreGathered}
use Rattle.rl_workers.proofs.seat.ask_each.Given as goal

abbrev pub invariant-loop-number : goal.invariant-loop-number
invariant-loop-number g l = AreGathered l.number l.fn.t l.fn.book l.fn.pass l.book l.pass
