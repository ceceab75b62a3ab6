-- What is kept by ranks goes back into the order of labels.
use Rattle.std.proofs.Common.{◌≡◌, List, ◌++◌, length, take, drop, subst, ◌∙◌, arith}
use Rattle.std.specs.List.Sorted.{IsPermutation}
use Rattle.std.proofs.lemmas.Grind.{common_steps}
use Rattle.rl_aggregate.specs.declared.outcome.Sample.{Sample}
use Rattle.rl_aggregate.proofs.Ranked.{sorted_back}
use Rattle.rl_aggregate.proofs.topk.topk.Goals as goal

pub returns : goal.returns
returns c =
    let kept = c.in_ok-kept.kept.items in
    let sorted = c.sort_by_labels.new.samples in
    let moved : IsPermutation kept sorted = subst (λ (ss : List Sample). IsPermutation ss sorted) c.deref_mut.ensures.value c.sort_by_labels.ensures.moved in
    let made : take c.in_ok-kept.kept.len (sorted ++ drop (length sorted) kept) ≡ sorted = grind (arith, common_steps) in
    made ∙ sorted_back c.args.k c.args.grouping.now c.args.samples.items c.in_ok-ranked.ranked.items kept sorted c.requires c.in_ok-ranked.ensures.moved c.in_ok-kept.ensures moved c.sort_by_labels.ensures.in_order
