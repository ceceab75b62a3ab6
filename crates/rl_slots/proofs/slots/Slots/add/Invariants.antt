-- The changes so far went in.
use Rattle.std.proofs.Common.{◌≡◌, map, take}
use Rattle.rl_slots.specs.Slots.{outline, with_changes, AllStand, Contents}
use Rattle.rl_slots.proofs.slots.Slots.add.Given as goal

abbrev pub invariant-loop-index : goal.invariant-loop-index
invariant-loop-index l = record {
  stand : (contents : Contents) → AllStand l.fn.self contents → AllStand l.self (with_changes (take l.index l.changes) contents);
  outline : map outline l.self ≡ map outline l.fn.self;
}
