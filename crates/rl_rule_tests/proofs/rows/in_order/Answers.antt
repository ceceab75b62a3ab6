-- The closure compares label sets.
use Rattle.std.proofs.Common.{rules}
use Rattle.std.specs.Ordering.{is_lt}
use Rattle.std.proofs.lemmas.List.Sorted.{ranks_by, answers_always}
use Rattle.rl_labels.specs.laws.TextLaws.{label_set_cmp_total}
use Rattle.rl_rule_tests.specs.Judging.{row_cmp}
use Rattle.rl_rule_tests.proofs.rows.in_order.Goals as goal

pub returns : goal.returns
returns c =
    let order = ranks_by label_set_cmp_total (λ row. row.labels.now) in
    let answers = answers_always _ _ _ (λ f a r g h. search rules) in
    record {
      same = c.in_ok-sort_by.ensures.permutation;
      in_order = c.in_ok-sort_by.ensures.sorted (λ a b. is_lt (row_cmp a b)) order answers;
      stable = c.in_ok-sort_by.ensures.stable (λ a b. is_lt (row_cmp a b)) order answers;
    }
