-- What is known at an index with equal labels.
use Rattle.std.proofs.Common.{◌≡◌, sym, ap, subst, ◌∙◌, arith}
use Rattle.rl_labels.specs.LabelSet.{LabelSet}
use Rattle.rl_labels.specs.laws.TextLaws.{label_set_eq-true}
use Rattle.rl_rules.specs.Naming.{final_by}
use Rattle.rl_rules.proofs.Finals.{final_at}
use Rattle.rl_rules.proofs.naming.known_at.Goals as goal

pub returns-in_ok-try_copy : goal.returns-in_ok-try_copy
returns-in_ok-try_copy c = λ naming are.
    let pair : LabelSet × LabelSet = c.index-known-position.result in
    let final = final_at naming c.args.known.now c.args.position pair are (omega (arith, c.if-position-known.false)) in
    let same = label_set_eq-true pair.0 c.args.labels.now (sym c.if-eq.ensures) in
    c.in_ok-try_copy.ensures ∙ subst (λ (p : LabelSet × LabelSet). p.1 ≡ final_by naming p.0) (sym c.index-known-position.is) final ∙ ap (final_by naming) same
