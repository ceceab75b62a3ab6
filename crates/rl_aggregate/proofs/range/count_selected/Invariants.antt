-- The lines of the entries so far that are selected are counted, and what the selector answered of the labels last asked is known.
use Rattle.std.proofs.Common.{◌≡◌, take}
use Rattle.std.specs.List.{filter, fold}
use Rattle.rl_labels.specs.Selects.{selects}
use Rattle.rl_aggregate.specs.Counter.{counted_entry}
use Rattle.rl_aggregate.specs.InRange.{is_selected}
use Rattle.rl_aggregate.proofs.range.count_selected.Given as goal

abbrev pub invariant-loop-entry : goal.invariant-loop-entry
invariant-loop-entry l = record {
  counted : l.counter ≡ fold counted_entry l.fn.counter (filter (is_selected l.term l.t) (take l.entry-index l.entries));
  answer : l.is_accepted ≡ selects l.selector l.labels;
}
