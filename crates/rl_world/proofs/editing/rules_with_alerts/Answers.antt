-- A pair more.
use Rattle.std.proofs.Common.{◌<◌, length, arith, ◌∙◌}
use Rattle.rl_world.proofs.Items.{paired_more, paired_all}
use Rattle.rl_world.proofs.editing.rules_with_alerts.Goals as goal

pub loop-index-preserved : goal.loop-index-preserved
loop-index-preserved c =
    let rules = c.args.rules.now in
    let kept = c.args.kept.now in
    let low : c.loop-index.index < length rules = omega (arith, c.loop-index-test.true, c.min-index-end.ensures) in
    let high : c.loop-index.index < length kept = omega (arith, c.loop-index-test.true, c.min-index-end.ensures) in
    paired_more rules kept c.loop-index.index c.in_ok-rule.rule c.in_ok-own.own c.loop-index.both.items c.push.new.self.items low high (rw c.in_ok-rule.ensures c.index-rules-index.is) (rw (c.in_ok-own.ensures ∙ c.alerts.ensures) c.index-kept-index.is) c.in_ok-push.ensures.items c.loop-index.invariant

pub returns : goal.returns
returns c = paired_all c.args.rules.now c.args.kept.now c.loop-index.index c.loop-index.both.items (λ low high. omega (arith, c.loop-index-test.false, c.min-index-end.ensures, low, high)) c.loop-index.invariant
