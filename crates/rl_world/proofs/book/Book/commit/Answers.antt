-- The book has one evaluation more, and its sinks were offered it.
use Rattle.std.proofs.Common.{◌≡◌, ◌<◌, nat_le, false, ◌++◌, List, [], ◌∷◌, Some, length, map, take, drop, arith, sym, ap, subst, ◌∙◌}
use Rattle.std.specs.List.{AllByRecursion}
use Rattle.std.proofs.lemmas.Bool.{leb-false}
use Rattle.std.proofs.lemmas.Grind.{common_steps}
use Rattle.rl_labels.specs.declared.entry.Entry.{Entry}
use Rattle.rl_rules.specs.Editing.{handed_on}
use Rattle.rl_rules.specs.declared.alert.Alert.{Alert}
use Rattle.rl_world.specs.Evaluating.{evaluation_of, group_terms}
use Rattle.rl_world.specs.History.{alerts_after, alerts_of, alerts_then, group_after, evaluations_in}
use Rattle.rl_world.specs.Kept.{evaluation_from}
use Rattle.rl_world.specs.Offering.{TookPrefix}
use Rattle.rl_world.specs.WorldState.{BookState, kept_open}
use Rattle.rl_world.specs.declared.item.Item.TheVariants as kinds
use Rattle.rl_world.specs.declared.opened.OpenEvaluation.{OpenEvaluation}
use Rattle.rl_world.proofs.Committing.{each_took_now, each_took_offered, from_scratch, holds_of_none, one_more}
use Rattle.rl_world.proofs.Items.{alerts-evaluated, group-evaluated, evaluations-evaluated}
use Rattle.rl_world.proofs.book.Book.commit.Goals as goal

pub offer_all-requires-clause-prefixes : goal.offer_all-requires-clause-prefixes
offer_all-requires-clause-prefixes g c =
    let state = g.S.Sink.state in
    let inside = c.self.inside in
    each_took_now inside.evaluations.items c.deref.result.now c.in_ok-evaluation.evaluation (map state inside.sinks.items) (map state c.deref_mut-3.result.now)
    (◌∙◌ {c = inside.evaluations.items ++ c.in_ok-evaluation.evaluation ∷ []} c.deref.ensures.value c.in_ok-push.ensures.items) (ap (map state) c.deref_mut-3.ensures.value) c.self.invariant.prefixes

pub returns-clause-from_scratch : goal.returns-clause-from_scratch
returns-clause-from_scratch g c =
    let inside = c.self.inside in
    let opened = c.in_ok-opened.opened.now in
    let made = c.in_ok-evaluation.ensures.evaluation ∙ (λ k. evaluation_from (c.get-group.ensures k) ((c.deref_mut.ensures.value ∙ c.self.invariant.alerts_are) k) opened) in
    subst (λ (b : BookState). (shown : OpenEvaluation (List Entry)) → b.history.opened ≡ Some (kept_open (group_terms b.history.group) shown) → c.in_ok-copy.copy ≡ evaluation_of b.history.group (alerts_of b.history) shown) c.self.view_is
    (λ shown kept. c.in_ok-copy.ensures ∙ from_scratch (record { first = inside.first; records = inside.records; items = inside.items.items; group = inside.group; evaluations = inside.evaluations.items; opened = inside.opened }) c.in_ok-evaluation.evaluation opened shown made c.in_ok-opened.ensures.ok kept)

pub invariant_of-self-2 : goal.invariant_of-self-2
invariant_of-self-2 g c =
    let state = g.S.Sink.state in
    let inside = c.self.inside in
    let evaluation = c.in_ok-evaluation.evaluation in
    let items = c.self.inside.items.items in
    let start : List (List Alert) = handed_on inside.first.rules [] in
    let news = take c.self.inside.sinks.len (c.offer_all.new.sinks ++ drop (length c.offer_all.new.sinks) c.self.inside.sinks.items) in
    let same : news ≡ c.offer_all.new.sinks = grind (arith, common_steps) in
    let known : c.deref.result.now ≡ c.push.new.self.items = c.deref.ensures.value in
    let offered = subst (λ evaluations. AllByRecursion (TookPrefix evaluations) (map state c.offer_all.new.sinks)) known (each_took_offered c.deref.result.now (map state c.deref_mut-3.result.now) (map state c.offer_all.new.sinks) c.offer_all.ensures.offered) in
    let free : nat_le inside.records c.len.result ≡ false = c.in_ok-opened.ensures.room in
    let room : length items < inside.records = omega (arith, leb-false inside.records c.len.result free, c.len.ensures, c.self.inside.items.ok.0) in
    let more : c.push_reserved.new.self.items ≡ items ++ kinds.Evaluated evaluation ∷ [] = c.push_reserved.ensures.items ∙ (λ k. c.in_ok-reserve.ensures.items k ++ kinds.Evaluated (c.in_ok-try_copy.ensures k) ∷ []) in
    let kept : List (List Alert) = take c.self.inside.kept.len (c.evaluate.new.kept ++ drop (length c.evaluate.new.kept) c.self.inside.kept.items) in
    let kept_now : List (List Alert) = take c.self.inside.kept.len (c.keep_all.new.kept ++ drop (length c.keep_all.new.kept) kept) in
    let same_kept : kept_now ≡ c.keep_all.new.kept = grind (arith, common_steps) in
    let had : c.deref_mut.result.now ≡ alerts_after inside.first start items = c.deref_mut.ensures.value ∙ c.self.invariant.alerts_are in
    record {
      terms_are = c.self.invariant.terms_are;
      alerts_are =
          same_kept
          ∙ c.keep_all.ensures
          ∙ c.in_ok-evaluation.ensures.alerts
          ∙ ap (λ alerts. alerts_then alerts evaluation.outcomes) had
          ∙ sym (alerts-evaluated evaluation inside.first start items)
          ∙ ap (alerts_after inside.first start) (sym more);
      each =
          ap (λ (alerts : List (List Alert)). length alerts) (same_kept ∙ c.keep_all.ensures)
          ∙ c.in_ok-evaluation.ensures.each
          ∙ ap (λ (alerts : List (List Alert)). length alerts) c.deref_mut.ensures.value
          ∙ c.self.invariant.each;
      few_shards = c.self.invariant.few_shards;
      few_records = c.self.invariant.few_records;
      few = omega (arith, one_more items c.push_reserved.new.self.items (kinds.Evaluated evaluation) more, room);
      group_is = c.self.invariant.group_is ∙ sym (group-evaluated evaluation inside.first items) ∙ ap (group_after inside.first) (sym more);
      evaluations_are = c.in_ok-push.ensures.items ∙ ap (λ evaluations. evaluations ++ evaluation ∷ []) c.self.invariant.evaluations_are ∙ sym (evaluations-evaluated evaluation items) ∙ ap evaluations_in (sym more);
      answers = holds_of_none _ c.close.new.opened c.close.ensures;
      prefixes = subst (λ sinks. AllByRecursion (TookPrefix c.push.new.self.items) (map state sinks)) (sym same) offered;
    }
