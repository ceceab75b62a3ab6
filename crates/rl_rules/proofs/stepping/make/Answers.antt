-- Sorted samples show by their neighbours whether two have one label set.
use Rattle.std.proofs.Common.{◌≡◌, IfOk, true, false, length, sym, ap, subst, ◌∙◌, arith}
use Rattle.std.proofs.lemmas.Grind.{common_steps}
use Rattle.rl_rules.specs.declared.evaluation.RuleOutcome.{RuleOutcome}
use Rattle.rl_rules.specs.Outcomes.{is_exceeded, made_by}
use Rattle.rl_rules.specs.Recording.{has_same_neighbours}
use Rattle.rl_rules.proofs.Recorded.{same_recorded, order_recorded}
use Rattle.rl_rules.proofs.stepping.make.Goals as goal

pub returns-then-has_same_neighbours : goal.returns-then-has_same_neighbours
returns-then-has_same_neighbours c =
    let rule = c.args.rule.now in
    let sorted = c.in_ok-samples.samples.items in
    let now : c.deref.result.now ≡ sorted = grind (arith, common_steps) in
    let count : is_exceeded c.args.limit (length c.args.samples.items) ≡ c.is_exceeded-exceeded.result = grind (arith, common_steps) in
    same_recorded rule c.args.limit (made_by rule.kind rule.hold c.args.alerts.now c.args.t) c.args.samples.items c.is_exceeded-exceeded.result count sorted c.in_ok-samples.ensures.moved (ap has_same_neighbours (sym now) ∙ sym c.if-has_same_neighbours.ensures)

pub returns-then-exceeded : goal.returns-then-exceeded
returns-then-exceeded c =
    let rule = c.args.rule.now in
    let sorted = c.in_ok-samples.samples.items in
    let now : c.deref.result.now ≡ sorted = grind (arith, common_steps) in
    let count : is_exceeded c.args.limit (length c.args.samples.items) ≡ true = grind (arith, common_steps) in
    order_recorded rule c.args.limit (made_by rule.kind rule.hold c.args.alerts.now c.args.t) c.args.samples.items true count sorted c.in_ok-samples.ensures.moved c.in_ok-samples.ensures.in_order (ap has_same_neighbours (sym now) ∙ sym c.if-has_same_neighbours.ensures)

pub returns : goal.returns
returns c =
    let rule = c.args.rule.now in
    let sorted = c.in_ok-samples.samples.items in
    let now : c.deref.result.now ≡ sorted = grind (arith, common_steps) in
    let count : is_exceeded c.args.limit (length c.args.samples.items) ≡ false = grind (arith, common_steps) in
    subst (λ (made : RuleOutcome). IfOk c.made_by.result (λ result. result ≡ made))
    (order_recorded rule c.args.limit (made_by rule.kind rule.hold c.args.alerts.now c.args.t) c.args.samples.items false count sorted c.in_ok-samples.ensures.moved c.in_ok-samples.ensures.in_order (ap has_same_neighbours (sym now) ∙ sym c.if-has_same_neighbours.ensures))
    c.made_by.ensures
