-- The streams so far were asked.
use Rattle.std.proofs.Common.{◌≡◌}
use Rattle.std.specs.Map.{keys_of}
use Rattle.rl_streams.specs.Selected.{IsSelection}
use Rattle.rl_streams.proofs.selections.ask_all.Given as goal

abbrev pub invariant-loop-position : goal.invariant-loop-position
invariant-loop-position l = record {
  kept : IsSelection (keys_of l.streams.entries) l.selection;
  same : l.selection.selector ≡ l.fn.selection.selector;
  here : l.selection.asked ≡ l.position;
}
