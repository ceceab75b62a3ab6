-- Where the windows of the slots so far are that select the stream.
use Rattle.std.proofs.Common.{◌≡◌, ◌≤◌, length, take}
use Rattle.rl_slots.specs.Slots.{selecting_from, term_count}
use Rattle.rl_slots.proofs.table.selecting.Given as goal

abbrev pub invariant-loop-index : goal.invariant-loop-index
invariant-loop-index l = record {
  indices : l.indices.items ≡ selecting_from l.labels 0 (take l.index l.slots);
  few : length l.indices.items ≤ term_count (take l.index l.slots);
}
