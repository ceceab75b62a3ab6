-- The label is put where it stands among the others.
use Rattle.std.proofs.Common.{◌≡◌, is_some, refl, sym, ap, subst, ◌∙◌}
use Rattle.std.specs.List.{insert}
use Rattle.std.specs.FinMap.Entries.{find, put}
use Rattle.rl_labels.specs.Name.{name_cmp}
use Rattle.rl_labels.proofs.Building.{new_placed, not_new}
use Rattle.rl_labels.proofs.builder.add_to_list.Goals as goal

pub returns-clause-added : goal.returns-clause-added
returns-clause-added c =
    let es = c.args.labels.now.items in
    let name = c.args.name.now in
    let value = c.args.value.now in
    let index = c.in-Some.index in
    c.in_ok-insert.ensures.items ∙ ap (insert es index) c.in_ok-label.ensures
    ∙ new_placed name value es index (ap (find name_cmp name) (sym c.deref.ensures.value) ∙ c.in-Some.ensures.absent) (subst (λ ls. put name_cmp name value ls ≡ insert ls index (name, value)) c.deref.ensures.value (c.in-Some.ensures.placed value))

pub returns-in_default-clause-added : goal.returns-in_default-clause-added
returns-in_default-clause-added c = not_new c.args.name.now c.args.value.now c.args.labels.now.items (ap (λ ls. is_some (find name_cmp c.args.name.now ls)) (sym c.deref.ensures.value) ∙ c.in_default.ensures.there refl)
