-- Each rule is handed alerts on, or none.
use Rattle.std.proofs.Common.{List, length, ap, ◌∙◌}
use Rattle.rl_rules.specs.declared.alert.Alert.{Alert}
use Rattle.rl_rules.specs.declared.rule.Rule.{Rule}
use Rattle.rl_world.proofs.Items.{length_handed_on}
use Rattle.rl_world.proofs.editing.kept_of.Goals as goal

pub returns-clause-each : goal.returns-clause-each
returns-clause-each c =
    ap (λ (kept : List (List Alert)). length kept) c.in_ok-kept.ensures
    ∙ length_handed_on c.as_slice.result.now c.args.before.items
    ∙ ap (λ (rules : List Rule). length rules) c.as_slice.ensures
