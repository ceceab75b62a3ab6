-- What is known is that of the rule, and so is what is put after it.
use Rattle.std.proofs.Common.{sym, ap, subst, ◌∙◌}
use Rattle.rl_labels.specs.LabelSet.{LabelSet}
use Rattle.rl_rules.specs.Naming.{Naming, AreFinal, final_by}
use Rattle.rl_rules.proofs.Finals.{final_more}
use Rattle.rl_rules.proofs.naming.LabelSetCache.named.Goals as goal

pub known_or_made-requires : goal.known_or_made-requires
known_or_made-requires c =
    let s = c.self.inside in
    let naming : Naming = record { kind = s.kind; name = s.name; labels = s.labels } in
    c.in_ok-known.ensures naming (subst (AreFinal naming) (sym c.deref-2.ensures.value) c.self.invariant.0)

pub invariant_of-self-2 : goal.invariant_of-self-2
invariant_of-self-2 c =
    let s = c.self.inside in
    let naming : Naming = record { kind = s.kind; name = s.name; labels = s.labels } in
    let pair : LabelSet × LabelSet = (c.in_ok-try_copy.field-0, c.in_ok-try_copy-2.field-0) in
    (c.self.invariant.0, subst (AreFinal naming) (sym c.in_ok-push.ensures.items) (final_more naming s.fresh.items pair c.self.invariant.1 (c.in_ok-try_copy-2.ensures ∙ c.in_ok-named-2.ensures ∙ ap (final_by naming) (sym c.in_ok-try_copy.ensures))))

pub returns-clause-named : goal.returns-clause-named
returns-clause-named c = c.in_ok-named-2.ensures ∙ ap (λ naming. final_by naming c.args.labels.now) (c.self.view_is ∙ c.as_before.ensures.same)
