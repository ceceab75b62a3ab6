-- The totals so far and the entries that are left have together what both had.
use Rattle.std.proofs.Common.{◌≡◌, T}
use Rattle.std.specs.FinMap as map
use Rattle.std.specs.FinMap.Entries.{find, is_sorted}
use Rattle.rl_labels.specs.LabelSet.{LabelSet}
use Rattle.rl_labels.specs.LabelText.{label_set_cmp}
use Rattle.rl_aggregate.specs.Partials.{both_totals}
use Rattle.rl_aggregate.specs.TotalsMap.{HasAll}
use Rattle.rl_aggregate.proofs.Merging.{joined, AreKnown}
use Rattle.rl_aggregate.proofs.totals.Totals.add_all.Given as goal

abbrev pub invariant-loop-labels : goal.invariant-loop-labels
invariant-loop-labels l = record {
  in_order : T (is_sorted label_set_cmp l.labels-iterator);
  sums : (q : LabelSet) → joined (map.get l.self q) (find label_set_cmp q l.labels-iterator) ≡ map.get (both_totals l.fn.self l.others) q;
  known : HasAll l.fn.self l.others → AreKnown l.self l.labels-iterator;
}
