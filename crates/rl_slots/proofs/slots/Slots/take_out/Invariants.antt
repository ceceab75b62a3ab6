-- The changes that are left are still in.
use Rattle.std.proofs.Common.{◌≡◌, ◌≤◌, length, map, take}
use Rattle.rl_slots.specs.Slots.{outline, with_changes, AllStand, Contents}
use Rattle.rl_slots.proofs.slots.Slots.take_out.Given as goal

abbrev pub invariant-loop-left : goal.invariant-loop-left
invariant-loop-left l = record {
  stand : (contents : Contents) → AllStand l.fn.self (with_changes l.changes contents) → AllStand l.self (with_changes (take l.left l.changes) contents);
  outline : map outline l.self ≡ map outline l.fn.self;
  within : l.left ≤ length l.changes;
}

abbrev pub decreases-loop-left : goal.decreases-loop-left
decreases-loop-left l = l.left
