-- Where the windows so far are that select the stream.
use Rattle.std.proofs.Common.{◌≡◌, ◌++◌, take}
use Rattle.rl_slots.specs.Slots.{selecting_in}
use Rattle.rl_slots.proofs.slot.Slot.select.Given as goal

abbrev pub invariant-loop-window : goal.invariant-loop-window
invariant-loop-window l = record {
  indices : l.indices.items ≡ l.fn.indices.items ++ selecting_in l.labels l.slot 0 (take l.window l.self.windows);
}
