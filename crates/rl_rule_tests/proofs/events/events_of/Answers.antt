-- The closure compares as the order does.
use Rattle.std.proofs.Common.{rules}
use Rattle.std.specs.Ordering.{is_lt}
use Rattle.std.specs.Cmp.{IsTotalOrder}
use Rattle.std.proofs.lemmas.Cmp.{on_total, then_total, nat_cmp_total}
use Rattle.std.proofs.lemmas.List.Sorted.{ranks_by, answers_always}
use Rattle.rl_rule_tests.specs.Happening.{event_cmp, rank}
use Rattle.rl_rule_tests.proofs.events.events_of.Goals as goal

pub returns-clause-in_order : goal.returns-clause-in_order
returns-clause-in_order c =
    let total : IsTotalOrder event_cmp =
    then_total (then_total (then_total (on_total (λ event. event.at) nat_cmp_total) (on_total (λ event. rank event.what) nat_cmp_total)) (on_total (λ event. event.number) nat_cmp_total)) (on_total (λ event. event.line) nat_cmp_total) in
    c.sort_unstable_by.ensures.sorted (λ a b. is_lt (event_cmp a b)) (ranks_by total (λ event. event)) (answers_always _ _ _ (λ f a r g h. search rules))
