-- A line more.
use Rattle.std.proofs.Common.{◌++◌, [], ◌∷◌, ◌+◌, ◌-◌, append_assoc, ap, sym, ◌∙◌}
use Rattle.rl_rule_tests.specs.Document.{line_at, lines_from, sum_up_to}
use Rattle.rl_rule_tests.proofs.Expansions.{line_is, lines_next}
use Rattle.rl_rule_tests.proofs.streams.push_moment.Goals as goal

pub loop-number-preserved : goal.loop-number-preserved
loop-number-preserved c =
    let loop = c.loop-number in
    let repeat = c.args.repeat in
    let rest = lines_from repeat c.args.index (loop.number + 1) (repeat.times - (loop.number + 1)) in
    let moment = c.saturating_add.ensures ∙ ap (λ following. sum_up_to repeat.steps.from following) c.saturating_mul.ensures in
    let line = line_is repeat c.args.index loop.number _ _ moment c.saturating_add-in-loop-number.ensures in
    ap (λ items. items ++ rest) (c.in_ok-push.ensures.items ∙ ap (λ one. loop.lines.items ++ one ∷ []) line)
    ∙ append_assoc loop.lines.items (line_at repeat c.args.index loop.number ∷ []) rest
    ∙ ap (λ more. loop.lines.items ++ more) (sym (lines_next repeat c.args.index loop.number repeat.times c.loop-number-test.true))
    ∙ loop.invariant
