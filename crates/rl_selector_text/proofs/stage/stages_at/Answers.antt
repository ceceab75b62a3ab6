-- Each turn reads one stage more.
use Rattle.std.proofs.Common.{◌≡◌, ◌++◌, ◌∷◌, [], ◌-◌, ◌+◌, suc, ◌∙◌, Bool, Ok, refl, ap, sym, false, map, arith, append-nil}
use Rattle.std.proofs.lemmas.List.{map_push}
use Rattle.rl_query.specs.Form.{stage_form}
use Rattle.rl_selector_text.specs.Parsing.{stages_at}
use Rattle.rl_selector_text.proofs.Items.{none_before, one_more}
use Rattle.rl_selector_text.proofs.Finding.{first_stops, fails_on}
use Rattle.rl_selector_text.proofs.stage.stages_at.Goals as goal

pub loop-turn-init : goal.loop-turn-init
loop-turn-init c = λ n many. rw c.new-stages.ensures.items (none_before (λ n. stages_at false c.args.room.depth c.args.room.tests n c.args.lexemes.now) n c.args.room.stages (omega arith))

pub returns-in_err-stage_comes : goal.returns-in_err-stage_comes
unfolding stages_at
returns-in_err-stage_comes c =
    fails_on _ _ _ _ c.from_residual.ensures.1 (sym (c.loop-turn.invariant (suc (c.args.room.stages - (c.loop-turn._turn + 1))) (omega arith)) ∙ rw (sym c.in_err-stage_comes.ensures) refl)

pub returns-then-not-branch : goal.returns-then-not-branch
unfolding stages_at
returns-then-not-branch c =
    let none = sym c.in_ok-stage_comes.ensures ∙ ap (λ (b : Bool). Ok b) c.if-not-branch.true in
    sym (c.loop-turn.invariant (suc (c.args.room.stages - (c.loop-turn._turn + 1))) (omega arith)) ∙ rw none (simp append-nil)

pub returns-in_err-stage : goal.returns-in_err-stage
unfolding stages_at
returns-in_err-stage c =
    let comes = sym c.in_ok-stage_comes.ensures ∙ ap (λ (b : Bool). Ok b) c.if-not-branch.false in
    let so_far = c.loop-turn.invariant (suc (c.args.room.stages - (c.loop-turn._turn + 1))) (omega arith) in
    fails_on _ _ _ _ c.from_residual-in_err-stage.ensures.1 (rw (sym so_far, comes) (first_stops _ _ _ (first_stops _ _ _ c.in_err-stage.ensures)))

pub loop-turn-preserved : goal.loop-turn-preserved
unfolding stages_at
loop-turn-preserved c =
    let s = c.in_ok-stage.stage in
    let e : map stage_form c.push.new.self.items ≡ map stage_form c.loop-turn.stages.items ++ stage_form s ∷ [] = rw c.in_ok-push.ensures.items (map_push _ c.loop-turn.stages.items s) in
    let comes = sym c.in_ok-stage_comes.ensures ∙ ap (λ (b : Bool). Ok b) c.if-not-branch.false in
    λ n many. rw (e, c.is_parsed-parsed.ensures) (one_more _ (stage_form s) _ _ (rw (comes, c.in_ok-stage.ensures) at (c.loop-turn.invariant (suc n) (omega arith))))

pub returns-in_err-no_stage : goal.returns-in_err-no_stage
returns-in_err-no_stage c =
    fails_on _ _ _ _ c.from_residual-in_err-no_stage.ensures.1 (sym (c.loop-turn.invariant 0 (omega arith)) ∙ rw (c.in_err-no_stage.ensures c.loop-turn.parsed c.args.room.depth c.loop-turn.left) refl)

pub returns : goal.returns
returns c = sym (c.loop-turn.invariant 0 (omega arith)) ∙ rw (c.in_ok-no_stage.ensures c.loop-turn.parsed c.args.room.depth c.loop-turn.left) (simp append-nil)
