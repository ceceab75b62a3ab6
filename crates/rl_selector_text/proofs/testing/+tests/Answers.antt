-- Each turn joins one part more.
use Rattle.std.proofs.Common.{◌≡◌, ◌-◌, ◌+◌, suc, refl, sym, ◌∙◌, arith}
use Rattle.rl_selector_text.specs.Testing.{others_at, joined_at, enclosed_at}
use Rattle.rl_selector_text.proofs.Finding.{first_stops, fails_on}
use Rattle.rl_selector_text.proofs.TestProductions.{fewer_found}
use Rattle.rl_selector_text.proofs.testing.+tests.Goals as goal

pub joined_at-returns-in_err-tests : goal.joined_at-returns-in_err-tests
unfolding joined_at
joined_at-returns-in_err-tests t c =
    fails_on _ _ _ _ c.from_residual.ensures.1 (first_stops _ _ _ c.in_err-tests.ensures)

pub joined_at-loop-turn-init : goal.joined_at-loop-turn-init
unfolding joined_at
joined_at-loop-turn-init t c = λ n many. let all : n ≡ c.args.left = omega arith in rw (all, c.in_ok-tests.ensures) refl

pub joined_at-returns-in_default : goal.joined_at-returns-in_default
unfolding others_at
joined_at-returns-in_default t c = sym (c.loop-turn.invariant (suc (c.args.left - (c.loop-turn._turn + 1))) (omega arith)) ∙ rw (sym c.in_default.ensures) refl

pub joined_at-returns-in_err-other : goal.joined_at-returns-in_err-other
unfolding others_at
joined_at-returns-in_err-other t c =
    let so_far = c.loop-turn.invariant (suc (c.args.left - (c.loop-turn._turn + 1))) (omega arith) in
    fails_on _ _ _ _ c.from_residual-in_err-other.ensures.1 (rw (sym so_far, sym c.in-Some.ensures) (first_stops _ _ _ c.in_err-other.ensures))

pub joined_at-loop-turn-preserved : goal.joined_at-loop-turn-preserved
unfolding others_at
joined_at-loop-turn-preserved t c = λ n many. rw c.in_ok-tests-2.ensures (rw (sym c.in-Some.ensures, c.in_ok-other.ensures) at (c.loop-turn.invariant (suc n) (omega arith)))

pub joined_at-returns : goal.joined_at-returns
unfolding others_at
joined_at-returns t c = sym (c.loop-turn.invariant 0 (omega arith))

pub enclosed_at-returns-in_err-rest : goal.enclosed_at-returns-in_err-rest
unfolding enclosed_at
enclosed_at-returns-in_err-rest t c =
    let depth : c.args.depth ≡ suc c.in_ok-fewer.fewer = omega (arith, (fewer_found c.offset_of.result c.args.depth).is c.in_ok-fewer.fewer (sym c.in_ok-fewer.ensures)) in
    fails_on _ _ _ _ c.from_residual-in_err-rest.ensures.1 (rw (depth, c.in_ok-tests.ensures, c.in_err-rest.ensures) refl)

pub enclosed_at-returns : goal.enclosed_at-returns
unfolding enclosed_at
enclosed_at-returns t c =
    let depth : c.args.depth ≡ suc c.in_ok-fewer.fewer = omega (arith, (fewer_found c.offset_of.result c.args.depth).is c.in_ok-fewer.fewer (sym c.in_ok-fewer.ensures)) in
    rw (depth, c.in_ok-tests.ensures, c.in_ok-rest.ensures) refl
