-- A known pair is final where it is put.
use Rattle.std.proofs.Common.{◌≡◌, sym, subst, ap, ◌∙◌, arith}
use Rattle.rl_labels.specs.LabelSet.{LabelSet}
use Rattle.rl_rules.specs.Naming.{AreFinal, final_by}
use Rattle.rl_rules.proofs.Finals.{final_at, final_more, final_take}
use Rattle.rl_rules.proofs.naming.push_first.Goals as goal

pub loop-pair-preserved : goal.loop-pair-preserved
loop-pair-preserved c naming known fresh =
    let pair : LabelSet × LabelSet = c.pair-item.result in
    let copy : LabelSet × LabelSet = (c.in_ok-try_copy.field-0, c.in_ok-try_copy-2.field-0) in
    let at = final_at naming _ c.loop-pair.pair-index pair (final_take naming c.args.known.now c.min.result known) (omega (arith, c.loop-pair-test.true, c.loop-pair.auto.pair-index-end)) in
    let final = subst (λ (p : LabelSet × LabelSet). p.1 ≡ final_by naming p.0) (sym c.pair-item.is) at in
    subst (AreFinal naming) (sym c.in_ok-push.ensures.items) (final_more naming c.loop-pair.fresh.items copy (c.loop-pair.invariant naming known fresh) (c.in_ok-try_copy-2.ensures ∙ final ∙ ap (final_by naming) (sym c.in_ok-try_copy.ensures)))

pub returns-in_err-push : goal.returns-in_err-push
returns-in_err-push c naming known fresh = subst (AreFinal naming) (sym c.in_err-push.ensures.items) (c.loop-pair.invariant naming known fresh)
