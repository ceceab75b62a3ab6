-- The sort by values leaves samples with equal values in the order of their labels.
use Rattle.std.proofs.Common.{rules}
use Rattle.std.proofs.lemmas.List.Sorted.{answers_always}
use Rattle.rl_aggregate.proofs.Ranked.{is_greater, greater_order, ranked-sorted}
use Rattle.rl_aggregate.proofs.topk.ranked.Goals as goal

pub returns-clause-ranked : goal.returns-clause-ranked
returns-clause-ranked c =
    let answers = answers_always _ _ _ (λ f a r g h. search rules) in
    ranked-sorted c.args.samples.items c.sort_by.new.self.items c.requires c.in_ok-sort_by.ensures.permutation (c.in_ok-sort_by.ensures.sorted is_greater greater_order answers) (c.in_ok-sort_by.ensures.stable is_greater greater_order answers)
