-- A check that passes, and one that does not.
use Rattle.std.proofs.Common.{true, false, sym, subst, ◌≡◌, ◌∙◌, map}
use Rattle.std.specs.List.{flat_map}
use Rattle.rl_rule_tests.specs.Counting.{passes}
use Rattle.rl_rule_tests.specs.Judging.{failure_of, rows_of, IsOutcome}
use Rattle.rl_rule_tests.proofs.Judged.{judged}
use Rattle.rl_rule_tests.proofs.playing.count_check.Goals as goal

pub returns-then-passes : goal.returns-then-passes
returns-then-passes c =
    let given = subst (λ results. IsOutcome (failure_of (map (λ one. one.now) results)) (flat_map rows_of (map (λ one. one.now) results)) c.in_ok-given.given) c.deref.ensures.value c.in_ok-given.ensures in
    let met = subst (λ results. true ≡ passes (map (λ one. one.now) results) c.in_ok-wanted.wanted c.in_ok-given.given) c.deref-2.ensures.value (sym c.if-passes.true ∙ c.passes.ensures) in
    (true, judged _ _ _ _ _ true c.in_ok-results.ensures c.in_ok-wanted.ensures given met, c.pass.ensures)

pub returns : goal.returns
returns c =
    let given = subst (λ results. IsOutcome (failure_of (map (λ one. one.now) results)) (flat_map rows_of (map (λ one. one.now) results)) c.in_ok-given.given) c.deref.ensures.value c.in_ok-given.ensures in
    let met = subst (λ results. false ≡ passes (map (λ one. one.now) results) c.in_ok-wanted.wanted c.in_ok-given.given) c.deref-2.ensures.value (sym c.if-passes.false ∙ c.passes.ensures) in
    (false, judged _ _ _ _ _ false c.in_ok-results.ensures c.in_ok-wanted.ensures given met, c.in_ok-fail.ensures)
