-- Notes that describe their items.
use Rattle.std.proofs.Common.{◌≡◌, [], List, get_or, map, Some, refl, sym, ap, subst, ◌∙◌}
use Rattle.rl_rules.specs.declared.rule.Group.{Group}
use Rattle.rl_world.specs.declared.item.Item.{Item}
use Rattle.rl_world.specs.declared.item.Item.TheVariants as kinds
use Rattle.rl_audit.specs.Claims.{IsRight}
use Rattle.rl_audit.specs.Merged.{evaluation_indices, item_of, Describes}
use Rattle.rl_audit.proofs.Noting.{items_there, right_edited, right_evaluated, same_there}
use Rattle.rl_audit.proofs.notes.item_of.Goals as goal

pub evaluation_at-requires : goal.evaluation_at-requires
evaluation_at-requires g c =
    let book = c.in_ok-get-in-Evaluated.field-0.now in
    let own = c.in_ok-get-in-Evaluated-2.field-0.now in
    let there = c.in_ok-get-in-Evaluated.ensures.lookup.3 in
    let own_there = c.in_ok-get-in-Evaluated-2.ensures.lookup.3 in
    same_there (λ own. own.evaluations) (λ book. evaluation_indices 0 book.history.items) c.args.indices.now c.args.books.now c.in-Evaluated.group own book c.requires own_there.0 there.0 (own_there.1 own) (there.1 book)

pub returns-in_ok-index-in-Evaluated-clause-right : goal.returns-in_ok-index-in-Evaluated-clause-right
returns-in_ok-index-in-Evaluated-clause-right g c _ =
    let books = c.args.books.now in
    let histories : List (List Item) = map (λ book. book.history.items) books in
    let book = c.in_ok-get-in-Evaluated.field-0.now in
    let there = c.in_ok-get-in-Evaluated.ensures.lookup.3 in
    let right = c.in_ok-index-in-Evaluated.ensures.right in
    let own : book.history.items ≡ get_or histories c.in-Evaluated.group [] = items_there (λ book. book.history.items) books c.in-Evaluated.group book there.0 (there.1 book) in
    subst (IsRight histories (item_of histories) Describes) (sym c.in-Evaluated.is)
    (right_evaluated histories book.history.items c.in-Evaluated.group c.in-Evaluated.number c.in_ok-index-in-Evaluated.index c.in-Evaluated.digest right.0 own c.in_ok-index-in-Evaluated.ensures.there right.1 right.2)

pub returns-else-not-is_edit-clause-right : goal.returns-else-not-is_edit-clause-right
returns-else-not-is_edit-clause-right g c _ =
    let histories : List (List Item) = map (λ book. book.history.items) c.args.books.now in
    let book = c.in_ok-get-in-Edited.field-0.now in
    let there = c.in_ok-get-in-Edited.ensures.lookup.3 in
    let own : book.history.items ≡ get_or histories c.in-Edited.group [] = items_there (λ book. book.history.items) c.args.books.now c.in-Edited.group book there.0 (there.1 book) in
    subst (IsRight histories (item_of histories) Describes) (sym c.in-Edited.is)
    (right_edited histories book.history.items c.in-Edited.group c.in-Edited.index c.in-Edited.to own (c.if-not-is_edit.ensures refl ∙ ap (λ (to : Group). Some (kinds.Edited to)) c.get-in-Edited-2.ensures))
