-- Where the evaluations so far stand, and those that are left.
use Rattle.std.proofs.Common.{◌≡◌, ◌≤◌, ◌-◌, ◌++◌, length, drop}
use Rattle.rl_audit.specs.Merged.{evaluation_indices}
use Rattle.rl_audit.proofs.notes.index_of.Given as goal

abbrev pub decreases-loop-item : goal.decreases-loop-item
decreases-loop-item g l = length l.book.history.items - l.items

abbrev pub invariant-loop-item : goal.invariant-loop-item
invariant-loop-item g l = record {
  split : l.evaluations.items ++ evaluation_indices l.items (drop l.items l.book.history.items) ≡ evaluation_indices 0 l.book.history.items;
  within : l.items ≤ length l.book.history.items;
}
