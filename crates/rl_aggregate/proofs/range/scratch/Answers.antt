-- The one partial is that of the entries, in whatever order they come.
use Rattle.std.proofs.Common.{length, slice_index_or, ap, ◌∙◌, arith}
use Rattle.rl_aggregate.specs.laws.Runs.{partial-permuted}
use Rattle.rl_aggregate.proofs.Scratched.{scratched}
use Rattle.rl_aggregate.proofs.range.scratch.Goals as goal

pub remove-requires : goal.remove-requires
remove-requires c =
    let all = scratched c.args.entries.now c.args.term.now c.args.t c.deref.result.now c.in_ok-counter.counter c.count_selected.new.counter c.in_ok-partials.partials.items
    (c.deref.ensures.value ∙ c.in_ok-pipelines.ensures) c.in_ok-counter.ensures c.in_ok-count_selected.ensures c.in_ok-partials.ensures.found in
    omega (arith, ap (λ partials. length partials) all, c.in_ok-partials.partials.ok.0)

pub returns-clause-partial : goal.returns-clause-partial
returns-clause-partial c =
    c.remove.ensures.value
    ∙ ap (λ partials. slice_index_or partials 0 c.remove.result) (scratched c.args.entries.now c.args.term.now c.args.t c.deref.result.now c.in_ok-counter.counter c.count_selected.new.counter c.in_ok-partials.partials.items
    (c.deref.ensures.value ∙ c.in_ok-pipelines.ensures) c.in_ok-counter.ensures c.in_ok-count_selected.ensures c.in_ok-partials.ensures.found)

pub returns-clause-any_order : goal.returns-clause-any_order
returns-clause-any_order c = λ others moved.
    c.remove.ensures.value
    ∙ ap (λ partials. slice_index_or partials 0 c.remove.result) (scratched c.args.entries.now c.args.term.now c.args.t c.deref.result.now c.in_ok-counter.counter c.count_selected.new.counter c.in_ok-partials.partials.items
    (c.deref.ensures.value ∙ c.in_ok-pipelines.ensures) c.in_ok-counter.ensures c.in_ok-count_selected.ensures c.in_ok-partials.ensures.found)
    ∙ partial-permuted c.args.entries.now others c.args.term.now c.args.t moved
