-- The windows so far need no line before the first.
use Rattle.std.proofs.Common.{◌≤◌, take}
use Rattle.std.specs.List.{AllByRecursion}
use Rattle.rl_slots.specs.Slots.{IsNeededFrom}
use Rattle.rl_slots.proofs.slot.Slot.first_needed.Given as goal

abbrev pub invariant-loop-it : goal.invariant-loop-it
invariant-loop-it l = record {
  first : AllByRecursion (IsNeededFrom l.first) (take l.it-index l.self.windows);
  least : l.first ≤ l.other;
}
