-- Each turn sets the alert before those that are in.
use Rattle.std.proofs.Common.{◌≡◌, suc, ◌+◌, ◌-◌, drop, get_or, length, sym, ap, ◌∙◌, arith}
use Rattle.std.specs.FinMap.{entries, from_entries}
use Rattle.rl_labels.specs.LabelText.{label_set_cmp}
use Rattle.rl_labels.specs.laws.TextLaws.{label_set_cmp_total, label_set_cmp-IsAntisymmetric}
use Rattle.rl_plain.specs.laws.TreeMaps.{entries-of_tree}
use Rattle.rl_rules.specs.declared.alert.Alert.{Alert}
use Rattle.rl_rules.specs.Alerts.{keyed}
use Rattle.rl_rules.proofs.Alerted.{first_set}
use Rattle.rl_rules.proofs.alerting.by_labels.Goals as goal

pub loop-index-preserved : goal.loop-index-preserved
loop-index-preserved c =
    let alerts = c.args.alerts.now in
    let i = c.loop-index.index in
    let x = c.index-alerts-alerts.result in
    let position : length alerts - 1 - i ≡ length alerts - (i + 1) = omega arith in
    let next : length alerts - i ≡ suc (length alerts - (i + 1)) = omega arith in
    let here : x ≡ get_or alerts (length alerts - (i + 1)) x = c.index-alerts-alerts.is ∙ ap (λ n. get_or alerts n x) position in
    record {
      ordered = c.in_ok-insert.ensures.ordered;
      so_far = first_set alerts (length alerts - (i + 1)) x c.loop-index.found.entries c.insert.new.self.entries c.in_ok-try_copy.field-0 c.in_ok-try_copy-2.field-0 (omega arith)
          (c.loop-index.invariant.so_far ∙ ap (λ n. from_entries {R = label_set_cmp} (keyed (drop n alerts))) next)
          (c.in_ok-try_copy.ensures ∙ ap (λ (a : Alert). a.labels) here) (c.in_ok-try_copy-2.ensures ∙ here) c.in_ok-insert.ensures.updates.0;
    }

pub returns : goal.returns
returns c =
    let alerts = c.args.alerts.now in
    let all : length alerts - c.loop-index.index ≡ 0 = omega arith in
    sym (entries-of_tree label_set_cmp_total label_set_cmp-IsAntisymmetric c.loop-index.found.entries c.loop-index.invariant.ordered)
    ∙ ap entries (c.loop-index.invariant.so_far ∙ ap (λ n. from_entries {R = label_set_cmp} (keyed (drop n alerts))) all)
