-- The windows took the entry, unless one of them has no room.
use Rattle.std.proofs.Common.{◌≡◌, ◌≤◌, Bool, true, false, cond, List, [], ◌∷◌, length, Err, inl, inr, refl, sym, ap, subst, ◌∙◌, arith}
use Rattle.rl_labels.specs.declared.entry.Entry.{Entry}
use Rattle.rl_deletes.specs.Deletes.{covered}
use Rattle.rl_slots.specs.Slots.{changes_of_all, AreExact, AreOfMost, SlotView}
use Rattle.rl_slots.specs.declared.change.Change.{Change}
use Rattle.rl_shard.proofs.pushing.let_in.Goals as goal

-- what was listed is what the entry changes, if it is not covered
listed : (is_covered : Bool) (entry : Entry) (slots : List SlotView) (changes : List Change) → (is_covered ≡ true → changes ≡ []) → (is_covered ≡ false → changes ≡ changes_of_all (entry ∷ []) slots) → changes ≡ changes_of_all (cond is_covered [] (entry ∷ [])) slots
listed true entry slots changes none all = none refl
listed false entry slots changes none all = all refl

one_at_most : (b : Bool) (entry : Entry) → length (cond b [] (entry ∷ [])) ≤ 1
one_at_most true entry = omega arith
one_at_most false entry = omega arith

pub returns-in-Err-Full-clause-let_in : goal.returns-in-Err-Full-clause-let_in
returns-in-Err-Full-clause-let_in c =
    let entry = c.args.entry.now in
    let is_covered = covered c.args.requests.now entry in
    let back = sym c.changes_of.ensures.same in
    let all = c.deref.ensures.value ∙ listed is_covered entry c.args.slots.now c.in_ok-changes.changes.items c.in_ok-changes.ensures.covered c.in_ok-changes.ensures.listed ∙ ap (changes_of_all (cond is_covered [] (entry ∷ []))) back in
    inl (λ most entries of_most exact.
    let over = c.add.ensures.full (c.in-Err-Full.is ∙ ap Err c.in-Err-Full.field-0-is) most (cond is_covered [] (entry ∷ [])) entries (subst (AreOfMost most) back of_most) all (subst (λ slots. AreExact slots entries) back exact) in
    omega (arith, over, one_at_most is_covered entry))

pub returns-in-Ok-clause-let_in : goal.returns-in-Ok-clause-let_in
returns-in-Ok-clause-let_in c =
    let entry = c.args.entry.now in
    let is_covered = covered c.args.requests.now entry in
    let back = sym c.changes_of.ensures.same in
    let all = c.deref.ensures.value ∙ listed is_covered entry c.args.slots.now c.in_ok-changes.changes.items c.in_ok-changes.ensures.covered c.in_ok-changes.ensures.listed ∙ ap (changes_of_all (cond is_covered [] (entry ∷ []))) back in
    inr (λ entries exact. c.in-Ok.ensures.exact (cond is_covered [] (entry ∷ [])) entries all (subst (λ slots. AreExact slots entries) back exact))
