-- The rows of the alerts so far follow the others.
use Rattle.std.proofs.Common.{◌≡◌, ◌++◌, map, take}
use Rattle.rl_rule_tests.specs.Judging.{alert_row, form}
use Rattle.rl_rule_tests.proofs.judging.push_alerts.Given as goal

abbrev pub invariant-loop-alert : goal.invariant-loop-alert
invariant-loop-alert l = map form l.rows.items ≡ map form l.fn.rows.items ++ map (alert_row l.annotations) (take l.alert-index l.alerts)
