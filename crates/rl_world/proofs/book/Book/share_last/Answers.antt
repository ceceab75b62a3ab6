-- The evaluation that is the last item is the last evaluation.
use Rattle.std.proofs.Common.{◌≡◌, List, ◌-◌, length, slice_get, Some, sym, ap, subst, ◌∙◌}
use Rattle.rl_rules.specs.declared.evaluation.Evaluation.{Evaluation}
use Rattle.rl_world.specs.WorldState.{BookState}
use Rattle.rl_world.specs.declared.item.Item.TheVariants as kinds
use Rattle.rl_world.proofs.Items.{last_evaluation}
use Rattle.rl_world.proofs.book.Book.share_last.Goals as goal

pub replace_last-requires-2 : goal.replace_last-requires-2
replace_last-requires-2 g c =
    let evaluation = c.args.evaluation.now in
    let items = c.self.inside.items.items in
    let last : slice_get items (length items - 1) ≡ Some (kinds.Evaluated evaluation) = subst (λ (b : BookState). slice_get b.history.items (length b.history.items - 1) ≡ Some (kinds.Evaluated evaluation)) (sym c.self.view_is) c.requires.last in
    subst (λ (evaluations : List Evaluation). slice_get evaluations (length evaluations - 1) ≡ Some c.in_ok-own.own) (sym c.self.invariant.evaluations_are) (last_evaluation evaluation items last ∙ ap Some (sym c.in_ok-own.ensures))
