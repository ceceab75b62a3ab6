-- The samples find their alerts in the tree.
use Rattle.std.proofs.Common.{◌≡◌, ◌++◌, IfOk, List, ap, subst, ◌∙◌}
use Rattle.rl_rules.specs.declared.alert.Alert.{Alert}
use Rattle.rl_rules.specs.Alerts.{all_gone, all_standing, in_label_order}
use Rattle.rl_rules.proofs.Alerted.{standing_all}
use Rattle.rl_rules.proofs.alerting.alerts_after.Goals as goal

pub returns : goal.returns
returns c =
    let alerts = c.args.alerts.now in
    let there = standing_all c.args.hold c.args.t c.args.samples.now alerts c.in_ok-before.before.entries c.in_ok-before.ensures in
    let pushed = rw c.new-after.ensures.items at c.in_ok-push_standing.ensures in
    let all : c.deref.result.now ≡ all_standing c.args.hold c.args.t c.args.samples.now alerts ++ all_gone alerts =
    c.deref.ensures.value ∙ c.in_ok-push_gone.ensures ∙ ap (λ (xs : List Alert). xs ++ all_gone alerts) (pushed ∙ there) in
    subst (λ (xs : List Alert). IfOk c.in_label_order.result (λ after. after.items ≡ in_label_order xs)) all c.in_label_order.ensures
