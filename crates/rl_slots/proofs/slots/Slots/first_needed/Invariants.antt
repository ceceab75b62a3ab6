-- The windows of the slots so far need no line before the first.
use Rattle.std.proofs.Common.{◌≤◌, take}
use Rattle.rl_slots.specs.Slots.{AreNeededFrom}
use Rattle.rl_slots.proofs.slots.Slots.first_needed.Given as goal

abbrev pub invariant-loop-slot : goal.invariant-loop-slot
invariant-loop-slot l = record {
  first : AreNeededFrom l.first (take l.slot-index l.self);
  least : l.first ≤ l.other;
}
