-- The first sinks are closed and counted, and the others are as they were.
use Rattle.std.proofs.Common.{◌≡◌, ◌≤◌, map, take, drop}
use Rattle.std.specs.List.{AllByRecursion, AllZip}
use Rattle.rl_world.specs.Closed.{HasAnswered, IsClosed, failures}
use Rattle.rl_world.proofs.book.close_all.Given as goal

abbrev pub invariant-loop-number : goal.invariant-loop-number
invariant-loop-number g l =
    let state = g.S.Sink.state in
    record {
      closed : AllZip IsClosed (take l.number (map state l.fn.sinks)) (take l.number (map state l.sinks));
      rest : drop l.number (map state l.sinks) ≡ drop l.number (map state l.fn.sinks);
      few : l.failed ≤ l.number;
      counted : l.failed ≡ failures (take l.number (map state l.sinks));
      answers : AllByRecursion (HasAnswered state g.S.Sink.close_answers) (take l.number (map state l.sinks));
    }
