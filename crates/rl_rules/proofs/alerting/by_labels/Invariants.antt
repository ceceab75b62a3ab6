-- The last alerts so far.
use Rattle.std.proofs.Common.{◌≡◌, ◌-◌, drop, length}
use Rattle.std.specs.BTreeMap.{IsOrdered}
use Rattle.std.specs.FinMap.{from_entries}
use Rattle.rl_labels.specs.LabelText.{label_set_cmp}
use Rattle.rl_rules.specs.Alerts.{keyed}
use Rattle.rl_rules.proofs.alerting.by_labels.Given as goal

abbrev pub invariant-loop-index : goal.invariant-loop-index
invariant-loop-index l = record {
  ordered : IsOrdered label_set_cmp l.found;
  so_far : from_entries {R = label_set_cmp} l.found.entries ≡ from_entries {R = label_set_cmp} (keyed (drop (length l.alerts - l.index) l.alerts));
}
