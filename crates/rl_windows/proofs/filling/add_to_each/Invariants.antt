-- The line came into the windows so far, a run for each.
use Rattle.std.proofs.Common.{◌≡◌, ◌++◌, map, take, drop}
use Rattle.rl_windows.specs.Filling.{with_line, with_runs}
use Rattle.rl_windows.proofs.filling.add_to_each.Given as goal

abbrev pub invariant-loop-index : goal.invariant-loop-index
invariant-loop-index l = record {
  came : l.each ≡ map (with_line (record { labels = l.labels; text = l.text }) l.timestamp) (take l.index l.initial.each) ++ drop l.index l.initial.each;
  line : l.line ≡ record { labels = l.labels; text = l.text };
  counted : l.meter ≡ with_runs l.index l.initial.meter;
}
