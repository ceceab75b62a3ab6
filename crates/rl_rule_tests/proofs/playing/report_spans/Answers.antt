-- A span more.
use Rattle.std.proofs.Common.{arith, subst}
use Rattle.std.proofs.lemmas.Grind.{common_steps}
use Rattle.rl_rule_tests.specs.Counting.{counts_of}
use Rattle.rl_rule_tests.specs.Playing.{ruler_of, AsksOfNobody, Chain}
use Rattle.rl_rule_tests.proofs.Chains.{goes_next, goes_all}
use Rattle.rl_rule_tests.proofs.playing.report_spans.Goals as goal

pub loop-span-preserved : goal.loop-span-preserved
loop-span-preserved g c = goes_next _ _ _ _ _ _ _ _ c.loop-span.invariant (grind (arith, common_steps, c.loop-span-test.true)) c.in_ok-report_span.ensures

pub returns : goal.returns
returns g c =
    let all = goes_all _ _ _ _ _ c.loop-span.invariant (grind (arith, common_steps, c.loop-span-test.false)) in
    subst (λ spans. Chain (AsksOfNobody (ruler_of g.E.Engine.calls) c.args.engine.now) (counts_of c.args.report.now) spans (counts_of c.loop-span.report)) c.deref-span-items.ensures.value all
