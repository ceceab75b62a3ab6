-- Each entry goes into the total at its label set.
use Rattle.std.proofs.Common.{◌≡◌, T, sym, ap, subst, ◌∙◌}
use Rattle.std.proofs.lemmas.Bool.{true≢false}
use Rattle.std.specs.FinMap as map
use Rattle.std.specs.FinMap.Entries.{find, is_sorted}
use Rattle.rl_labels.specs.LabelText.{label_set_cmp}
use Rattle.rl_aggregate.specs.laws.Totals.{get-both_totals, total_at-both_totals, same_totals}
use Rattle.rl_aggregate.specs.Partials.{both_totals, VolumeFits}
use Rattle.rl_plain.specs.laws.TreeMaps.{sorted_entries}
use Rattle.rl_aggregate.proofs.Merging.{joined, joined-None, joined-added, sorted_rest, total_at-next, find-entries, AreKnown, known-all, known-first, known-rest}
use Rattle.rl_aggregate.proofs.totals.Totals.add_all.Goals as goal

pub loop-labels-init : goal.loop-labels-init
loop-labels-init c =
    let es = c.others.inside.by_labels.entries in
    let all_of : c.into_iter-labels-iterator.result ≡ es = c.into_iter-labels-iterator.ensures.into_iter_gives ∙ c.iter-labels-items.ensures.rest in
    record {
      in_order = subst (λ t. T (is_sorted label_set_cmp t)) (sym all_of) (sorted_entries label_set_cmp es c.iter-labels-items.ensures.ordered);
      sums = λ q.
          ap (joined (map.get c.args.self.now q)) (ap (find label_set_cmp q) all_of ∙ find-entries c.args.others.now es q c.others.view_is)
          ∙ sym (get-both_totals c.args.self.now c.args.others.now q);
      known = λ all. subst (AreKnown c.args.self.now) (sym all_of) (known-all c.args.self.now c.args.others.now es c.others.view_is all);
    }

pub add-requires : goal.add-requires
add-requires c =
    let k = c.in-Some.labels.now in
    let v = c.in-Some.total.now in
    let both = both_totals c.args.self.now c.args.others.now in
    let sum = ap (λ t. joined (map.get c.loop-labels.self k) (find label_set_cmp k t)) (sym c.in-Some.ensures.steps) ∙ c.loop-labels.invariant.sums k in
    subst VolumeFits (sym (total_at-next c.loop-labels.self both k v c.next.new.self sum ∙ total_at-both_totals c.args.self.now c.args.others.now k)) (c.requires k)

pub loop-labels-preserved : goal.loop-labels-preserved
loop-labels-preserved c =
    let k = c.in-Some.labels.now in
    let v = c.in-Some.total.now in
    let front = c.in-Some.ensures.steps in
    let in_order = subst (λ t. T (is_sorted label_set_cmp t)) front c.loop-labels.invariant.in_order in
    record {
      in_order = sorted_rest k v c.next.new.self in_order;
      sums = λ q.
          ap (λ m. joined (map.get m q) (find label_set_cmp q c.next.new.self)) c.in_ok-add.ensures.ok
          ∙ joined-added c.loop-labels.self k v c.next.new.self q in_order
          ∙ ap (λ t. joined (map.get c.loop-labels.self q) (find label_set_cmp q t)) (sym front)
          ∙ c.loop-labels.invariant.sums q;
      known = λ all. subst (λ m. AreKnown m c.next.new.self) (sym c.in_ok-add.ensures.ok) (known-rest c.loop-labels.self k v c.next.new.self (subst (AreKnown c.loop-labels.self) front (c.loop-labels.invariant.known all)));
    }

pub returns-in_err-add-clause-known : goal.returns-in_err-add-clause-known
returns-in_err-add-clause-known c = λ all.
    let k = c.in-Some.labels.now in
    absurd (true≢false (sym (c.in_err-add.ensures.known (known-first c.loop-labels.self k c.in-Some.total.now c.next.new.self (subst (AreKnown c.loop-labels.self) c.in-Some.ensures.steps (c.loop-labels.invariant.known all))))))

pub returns-clause-ok : goal.returns-clause-ok
returns-clause-ok c = same_totals _ _ (λ q.
    sym (joined-None (map.get c.loop-labels.self q))
    ∙ ap (λ t. joined (map.get c.loop-labels.self q) (find label_set_cmp q t)) (sym c.in-None.ensures.steps.0)
    ∙ c.loop-labels.invariant.sums q)
