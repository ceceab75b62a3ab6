-- The first sinks were offered what they had not taken, and the others are as they were.
use Rattle.std.proofs.Common.{◌≡◌, ◌+◌, ◌≤◌, ◌++◌, map, length, take, drop, vec_len, vec_capacity}
use Rattle.rl_world.specs.Offering.{AllOffered, behind_of}
use Rattle.rl_world.proofs.offering.offer_all.Given as goal

abbrev pub invariant-loop-number : goal.invariant-loop-number
invariant-loop-number g l =
    let state = g.S.Sink.state in
    record {
      offered : AllOffered l.evaluations (take l.number (map state l.fn.sinks)) (take l.number (map state l.sinks));
      rest : drop l.number (map state l.sinks) ≡ drop l.number (map state l.fn.sinks);
      behind : l.behind.items ≡ l.fn.behind.items ++ behind_of l.evaluations (take l.number (map state l.sinks));
      room : vec_len l.behind + length l.fn.sinks ≤ vec_capacity l.behind + l.number;
    }
