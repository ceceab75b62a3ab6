-- Each rule is passed over, or goes.
use Rattle.std.proofs.Common.{◌<◌, ◌≤◌, length, sym, ap, ◌∙◌, arith}
use Rattle.rl_rules.specs.Editing.{taken}
use Rattle.rl_rules.proofs.Edited.{passed_more, taken_here, none_taken}
use Rattle.rl_rules.proofs.editing.take_first.Goals as goal

pub loop-index-preserved : goal.loop-index-preserved
loop-index-preserved c =
    let all = ap length c.loop-index.invariant.all in
    let within : c.loop-index.index < length c.loop-index.before.items = omega (arith, all, c.args.before.now.ok.0) in
    record {
      all = c.loop-index.invariant.all;
      passed = passed_more c.args.rule.now c.loop-index.before.items c.loop-index.index c.index.result.now within c.index.ensures (sym c.is_same_rule.ensures ∙ c.if-is_same_rule.false) c.loop-index.invariant.passed;
    }

pub returns-then-is_same_rule : goal.returns-then-is_same_rule
returns-then-is_same_rule c =
    let all = ap length c.loop-index.invariant.all in
    let within : c.loop-index.index < length c.loop-index.before.items = omega (arith, all, c.args.before.now.ok.0) in
    taken_here c.args.rule.now c.loop-index.before.items c.loop-index.index c.index.result.now c.remove.result c.remove.new.self.items within c.index.ensures c.remove.ensures.value c.remove.ensures.by_index.2 (sym c.is_same_rule.ensures ∙ c.if-is_same_rule.true) c.loop-index.invariant.passed
    ∙ ap (taken c.args.rule.now) c.loop-index.invariant.all

pub returns : goal.returns
returns c =
    let all = ap length c.loop-index.invariant.all in
    let end : length c.loop-index.before.items ≤ c.loop-index.index = omega (arith, all, c.args.before.now.ok.0) in
    none_taken c.args.rule.now c.loop-index.before.items c.loop-index.index end c.loop-index.invariant.passed ∙ ap (taken c.args.rule.now) c.loop-index.invariant.all
