-- The divisors that stand before a sample are dropped, and it is divided by its partner.
use Rattle.std.proofs.Common.{◌≡◌, ◌++◌, ◌∷◌, Some, None, sym, ap, subst, ◌∙◌, append-nil}
use Rattle.std.specs.List.{AllByRecursion}
use Rattle.rl_aggregate.specs.Ratios.{not_before, ratios, value_over}
use Rattle.rl_aggregate.specs.Vectors.{AreInOrder, IsOfOneTerm}
use Rattle.rl_aggregate.proofs.Dividing.{order-not_before, all-not_before, not_before-again, one_divided}
use Rattle.rl_aggregate.proofs.ratio.divide.Goals as goal

pub value_over-requires-clause-order : goal.value_over-requires-clause-order
value_over-requires-clause-order c = subst AreInOrder (sym c.not_before-rest.ensures) (order-not_before c.in-Some.sample.labels c.loop-sample.rest.now c.loop-sample.invariant.divisors_order)

pub value_over-requires-clause-from : goal.value_over-requires-clause-from
value_over-requires-clause-from c =
    let labels = c.in-Some.sample.labels in
    ap (not_before labels) c.not_before-rest.ensures ∙ not_before-again labels c.loop-sample.rest.now ∙ sym c.not_before-rest.ensures

pub value_over-requires-clause-divisors_small : goal.value_over-requires-clause-divisors_small
value_over-requires-clause-divisors_small c = subst (AllByRecursion IsOfOneTerm) (sym c.not_before-rest.ensures) (all-not_before IsOfOneTerm c.in-Some.sample.labels c.loop-sample.rest.now c.loop-sample.invariant.divisors_small)

pub loop-sample-preserved : goal.loop-sample-preserved
loop-sample-preserved c =
    let before = c.loop-sample.invariant in
    let sample = c.in-Some.sample in
    let samples = c.next.new.self.rest.items in
    let divisors = c.loop-sample.rest.now in
    let split : c.loop-sample.sample-iterator.rest.items ≡ sample ∷ samples = c.in-Some.ensures.steps.0 in
    let order = subst AreInOrder split before.order in
    let one = one_divided c.loop-sample.made.items sample samples divisors (Some c.in-Some-value_over.value) order.0 (sym c.in-Some-value_over.is ∙ c.value_over.ensures ∙ ap (λ rest. value_over rest sample) c.not_before-rest.ensures) in
    record {
      all = (λ i. c.in_ok-push.ensures.items i ++ ratios samples (c.not_before-rest.ensures i)) ∙ one ∙ ap (λ all. c.loop-sample.made.items ++ ratios all divisors) (sym split) ∙ before.all;
      order = order.1;
      divisors_order = subst AreInOrder (sym c.not_before-rest.ensures) (order-not_before sample.labels divisors before.divisors_order);
      small = (subst (AllByRecursion IsOfOneTerm) split before.small).1;
      divisors_small = subst (AllByRecursion IsOfOneTerm) (sym c.not_before-rest.ensures) (all-not_before IsOfOneTerm sample.labels divisors before.divisors_small);
    }

pub loop-sample-preserved-in_default : goal.loop-sample-preserved-in_default
loop-sample-preserved-in_default c =
    let before = c.loop-sample.invariant in
    let sample = c.in-Some.sample in
    let samples = c.next.new.self.rest.items in
    let divisors = c.loop-sample.rest.now in
    let split : c.loop-sample.sample-iterator.rest.items ≡ sample ∷ samples = c.in-Some.ensures.steps.0 in
    let order = subst AreInOrder split before.order in
    let one = one_divided c.loop-sample.made.items sample samples divisors None order.0 (sym c.in_default.is ∙ c.value_over.ensures ∙ ap (λ rest. value_over rest sample) c.not_before-rest.ensures) in
    record {
      all = (λ i. sym (append-nil c.loop-sample.made.items) i ++ ratios samples (c.not_before-rest.ensures i)) ∙ one ∙ ap (λ all. c.loop-sample.made.items ++ ratios all divisors) (sym split) ∙ before.all;
      order = order.1;
      divisors_order = subst AreInOrder (sym c.not_before-rest.ensures) (order-not_before sample.labels divisors before.divisors_order);
      small = (subst (AllByRecursion IsOfOneTerm) split before.small).1;
      divisors_small = subst (AllByRecursion IsOfOneTerm) (sym c.not_before-rest.ensures) (all-not_before IsOfOneTerm sample.labels divisors before.divisors_small);
    }
