-- One stream more.
use Rattle.std.proofs.Common.{◌+◌, refl, subst, ◌∙◌, arith}
use Rattle.std.proofs.lemmas.Grind.{common_steps}
use Rattle.rl_streams.specs.CursorState.{AreAsked}
use Rattle.rl_streams.proofs.Asked.{asked_then}
use Rattle.rl_streams.proofs.Whole.{looks_then}
use Rattle.rl_streams.proofs.cursor.fill.Goals as goal

pub loop-next-preserved : goal.loop-next-preserved
loop-next-preserved g c =
    let before = c.loop-next.invariant in
    let rows = c.args.streams.now.rows in
    let selector = c.args.selector.now in
    let next = c.loop-next.next in
    let there = subst (λ rs. AreAsked rs selector c.args.range.from c.args.range.to next c.loop-next.lines (next + 1) c.visit_lines.new.lines) before.same.rows c.in_default.ensures.asked in
    record {
      same = looks_then c.args.streams.now c.loop-next.streams c.visit_lines.new.self before.same c.in_default.ensures.same;
      asked = asked_then rows selector c.args.range.from c.args.range.to c.args.position.now c.args.lines.now next c.loop-next.lines (next + 1) c.visit_lines.new.lines (subst (λ n. AreAsked rows selector c.args.range.from c.args.range.to c.args.position.now c.args.lines.now n c.loop-next.lines) before.at before.asked) there;
      faults = c.in_default.ensures.counted ∙ before.faults;
      at = refl;
      left = grind (arith, common_steps);
    }
