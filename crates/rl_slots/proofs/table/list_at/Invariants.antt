-- What the line changes in the windows at the indices so far.
use Rattle.std.proofs.Common.{◌≡◌, ◌++◌, take}
use Rattle.rl_windows.specs.Ranges.{HasRuns}
use Rattle.rl_slots.specs.Slots.{changes_at}
use Rattle.rl_slots.proofs.table.list_at.Given as goal

abbrev pub invariant-loop-index : goal.invariant-loop-index
invariant-loop-index l = record {
  listed : l.changes.items ≡ l.fn.changes.items ++ changes_at l.fn.line l.timestamp l.slots (take l.index-index l.indices);
  runs : HasRuns l.index-index l.fn.meter l.meter;
  line : l.line ≡ l.fn.line;
}
