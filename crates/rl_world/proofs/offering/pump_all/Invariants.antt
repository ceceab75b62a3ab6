-- The first sinks were pumped, and the others are as they were.
use Rattle.std.proofs.Common.{◌≡◌, length, map, take, drop}
use Rattle.std.specs.List.{AllByRecursion}
use Rattle.rl_world.specs.Closed.{HasAnswered}
use Rattle.rl_world.specs.WorldRun.{ArePumped}
use Rattle.rl_world.proofs.offering.pump_all.Given as goal

abbrev pub invariant-loop-number : goal.invariant-loop-number
invariant-loop-number g l =
    let state = g.S.Sink.state in
    record {
      pumped : ArePumped (take l.number (map state l.fn.sinks)) (take l.number (map state l.sinks));
      rest : drop l.number (map state l.sinks) ≡ drop l.number (map state l.fn.sinks);
      len : length l.sinks ≡ length l.fn.sinks;
      answers : AllByRecursion (HasAnswered state g.S.Sink.pump_answers) (take l.number (map state l.sinks));
    }
