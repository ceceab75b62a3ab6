-- A new book has what its group is handed on, and no item.
use Rattle.std.proofs.Common.{◌≡◌, List, [], length, map, arith, sym, ap, subst, ◌∙◌}
use Rattle.std.specs.List.{AllByRecursion}
use Rattle.rl_rules.specs.Editing.{handed_on}
use Rattle.rl_rules.specs.declared.evaluation.Evaluation.{Evaluation}
use Rattle.rl_rules.specs.declared.rule.Group.{Group}
use Rattle.rl_world.specs.Evaluating.{group_terms}
use Rattle.rl_world.specs.History.{alerts_after, group_after, evaluations_in}
use Rattle.rl_world.specs.Offering.{TookPrefix}
use Rattle.rl_world.specs.declared.item.Item.{Item}
use Rattle.rl_world.proofs.Opening.{fresh_took}
use Rattle.rl_world.proofs.book.Book.open.Goals as goal

pub invariant_of-result : goal.invariant_of-result
invariant_of-result g c =
    let first = c.in_ok-first.first in
    let items : c.new-3.result.items ≡ [] = c.new-3.ensures.items in
    let now : c.in_ok-now.now ≡ c.args.group = c.in_ok-now.ensures ∙ c.in_ok-first.ensures in
    let none : length c.new-3.result.items ≡ 0 = ap (λ (all : List Item). length all) items in
    let sinks = map g.S.Sink.state c.args.sinks.items in
    record {
      terms_are = c.in_ok-terms.ensures ∙ ap group_terms (sym now);
      alerts_are =
          c.in_ok-kept.ensures.alerts
          ∙ (λ k. handed_on (sym c.in_ok-first.ensures k).rules (c.new.ensures.items k))
          ∙ sym (ap (alerts_after first (handed_on first.rules [])) items);
      each = c.in_ok-kept.ensures.each ∙ ap (λ (group : Group). length group.rules) (sym now);
      few_shards = c.requires.shards;
      few_records = c.requires.records;
      few = omega (arith, none);
      group_is = c.in_ok-now.ensures ∙ sym (ap (group_after first) items);
      evaluations_are = c.new-4.ensures.items ∙ sym (ap evaluations_in items);
      answers = tt;
      prefixes = subst (λ (all : List Evaluation). AllByRecursion (TookPrefix all) sinks) (sym c.new-4.ensures.items) (fresh_took sinks c.requires.fresh);
    }
