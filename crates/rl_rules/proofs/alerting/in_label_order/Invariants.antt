-- The alerts so far, and those of the entries that are left.
use Rattle.std.proofs.Common.{◌≡◌, ◌++◌, map}
use Rattle.rl_rules.specs.Alerts.{in_label_order}
use Rattle.rl_rules.proofs.alerting.in_label_order.Given as goal

abbrev pub invariant-loop-alert : goal.invariant-loop-alert
invariant-loop-alert l = l.ordered.items ++ map (λ entry. entry.1) l.alert-iterator ≡ in_label_order l.fn.alerts
