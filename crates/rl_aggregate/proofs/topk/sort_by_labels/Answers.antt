-- The closure compares label sets.
use Rattle.std.proofs.Common.{rules}
use Rattle.std.specs.Ordering.{is_lt}
use Rattle.std.proofs.lemmas.List.Sorted.{ranks_by, answers_always}
use Rattle.rl_labels.specs.laws.TextLaws.{label_set_cmp_total}
use Rattle.rl_aggregate.specs.Grouping.{sample_cmp}
use Rattle.rl_aggregate.proofs.topk.sort_by_labels.Goals as goal

pub returns-clause-in_order : goal.returns-clause-in_order
returns-clause-in_order c = c.sort_unstable_by.ensures.sorted (λ a b. is_lt (sample_cmp a b)) (ranks_by label_set_cmp_total (λ sample. sample.labels)) (answers_always _ _ _ (λ f a r g h. search rules))
