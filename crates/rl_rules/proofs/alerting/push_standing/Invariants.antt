-- Those of the samples so far.
use Rattle.std.proofs.Common.{◌≡◌, ◌++◌, map, take}
use Rattle.std.specs.BTreeMap as tree
use Rattle.rl_labels.specs.LabelText.{label_set_cmp}
use Rattle.rl_rules.specs.Alerts.{standing}
use Rattle.rl_rules.proofs.alerting.push_standing.Given as goal

abbrev pub invariant-loop-sample : goal.invariant-loop-sample
invariant-loop-sample l = l.after.items ≡ l.initial.after.items ++ map (λ sample. standing l.hold l.t sample.labels sample.value (tree.get label_set_cmp l.before sample.labels)) (take l.sample-index l.samples)
