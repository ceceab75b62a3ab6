-- What is known is that of the rule, also where it is copied.
use Rattle.std.proofs.Common.{◌≡◌, sym, subst}
use Rattle.std.specs.Prelude.{IfSome}
use Rattle.rl_rules.specs.Naming.{Naming, AreFinal, final_by}
use Rattle.rl_rules.proofs.naming.LabelSetCache.as_before.Goals as goal

pub returns-then-is_some-clause-named : goal.returns-then-is_some-clause-named
returns-then-is_some-clause-named c =
    let s = c.self.inside in
    let naming : Naming = record { kind = s.kind; name = s.name; labels = s.labels } in
    subst (λ naming. IfSome c.in_ok-known.known (λ named. named ≡ final_by naming c.args.labels.now)) c.self.view_is (c.in_ok-known.ensures naming (subst (AreFinal naming) (sym c.deref.ensures.value) c.self.invariant.0))

pub invariant_of-self-in_err-push_first : goal.invariant_of-self-in_err-push_first
invariant_of-self-in_err-push_first c =
    let s = c.self.inside in
    let naming : Naming = record { kind = s.kind; name = s.name; labels = s.labels } in
    (c.self.invariant.0, c.push_first.ensures naming (subst (AreFinal naming) (sym c.deref-2.ensures.value) c.self.invariant.0) c.self.invariant.1)

pub invariant_of-self-2 : goal.invariant_of-self-2
invariant_of-self-2 c =
    let s = c.self.inside in
    let naming : Naming = record { kind = s.kind; name = s.name; labels = s.labels } in
    (c.self.invariant.0, c.push_first.ensures naming (subst (AreFinal naming) (sym c.deref-2.ensures.value) c.self.invariant.0) c.self.invariant.1)
