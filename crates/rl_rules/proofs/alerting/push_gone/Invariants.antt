-- Those of the alerts so far.
use Rattle.std.proofs.Common.{◌≡◌, ◌++◌, take}
use Rattle.rl_rules.specs.Alerts.{all_gone}
use Rattle.rl_rules.proofs.alerting.push_gone.Given as goal

abbrev pub invariant-loop-alert : goal.invariant-loop-alert
invariant-loop-alert l = l.after.items ≡ l.initial.after.items ++ all_gone (take l.alert-index l.alerts)
