-- The book has one edit more, and its rules what was handed on.
use Rattle.std.proofs.Common.{◌≡◌, ◌<◌, ◌++◌, List, [], ◌∷◌, None, length, arith, sym, ap, subst, ◌∙◌}
use Rattle.rl_rules.specs.Editing.{handed_on}
use Rattle.rl_rules.specs.declared.alert.Alert.{Alert}
use Rattle.rl_rules.specs.declared.rule.Group.{Group}
use Rattle.rl_world.specs.Evaluating.{group_terms}
use Rattle.rl_world.specs.History.{alerts_after, alerts_edited, group_after, evaluations_in}
use Rattle.rl_world.specs.WorldState.{BookState}
use Rattle.rl_world.specs.declared.item.Item.TheVariants as kinds
use Rattle.rl_world.proofs.Committing.{holds_of_none, one_more}
use Rattle.rl_world.proofs.Items.{alerts-edited, group-edited, evaluations-edited}
use Rattle.rl_world.proofs.book.Book.edit.Goals as goal

pub invariant_of-self-2 : goal.invariant_of-self-2
invariant_of-self-2 g c =
    let inside = c.self.inside in
    let items = c.self.inside.items.items in
    let to = c.args.group in
    let start : List (List Alert) = handed_on inside.first.rules [] in
    let more : c.push.new.self.items ≡ items ++ kinds.Edited to ∷ [] = c.in_ok-push.ensures.items ∙ (λ k. items ++ kinds.Edited (c.in_ok-try_copy.ensures k) ∷ []) in
    let room : length items < inside.records = subst (λ (b : BookState). length b.history.items < b.history.records) (sym c.self.view_is) c.in_ok-place.ensures.room in
    let closed : inside.opened ≡ None = subst (λ (b : BookState). b.history.opened ≡ None) (sym c.self.view_is) c.in_ok-place.ensures.closed in
    record {
      terms_are = c.in_ok-terms.ensures ∙ ap group_terms c.get-to.ensures;
      alerts_are =
          c.in_ok-kept.ensures.alerts
          ∙ (λ k. alerts_edited ((c.get.ensures ∙ c.self.invariant.group_is) k) ((c.deref.ensures.value ∙ c.self.invariant.alerts_are) k) (c.get-to.ensures k))
          ∙ sym (alerts-edited to inside.first start items)
          ∙ ap (alerts_after inside.first start) (sym more);
      each = c.in_ok-kept.ensures.each ∙ ap (λ (group : Group). length group.rules) c.get-to.ensures;
      few_shards = c.self.invariant.few_shards;
      few_records = c.self.invariant.few_records;
      few = omega (arith, one_more items c.push.new.self.items (kinds.Edited to) more, room);
      group_is = sym (group-edited to inside.first items) ∙ ap (group_after inside.first) (sym more);
      evaluations_are = c.self.invariant.evaluations_are ∙ sym (evaluations-edited to items) ∙ ap evaluations_in (sym more);
      answers = holds_of_none _ inside.opened closed;
      prefixes = c.self.invariant.prefixes;
    }
