-- What is counted of the entries that a term selects is the partial of all of them.
use Rattle.std.proofs.Common.{◌≡◌, ℕ, ◌≤◌, false, List, [], ◌∷◌, length, map, ap, ◌∙◌, arith}
use Rattle.std.specs.List.{filter, fold}
use Rattle.std.proofs.lemmas.List.Sums.{length-filter, count_by-le-length}
use Rattle.rl_labels.specs.declared.entry.Entry.{Entry}
use Rattle.rl_query.specs.declared.query.Term.{Term}
use Rattle.rl_query.specs.declared.stages.Stage.{Stage}
use Rattle.rl_aggregate.specs.Counter.{CounterView, counted_entry}
use Rattle.rl_aggregate.specs.InRange.{is_selected}
use Rattle.rl_aggregate.specs.Partials.{partial}
use Rattle.rl_aggregate.specs.Accumulators.{nothing_counted}
use Rattle.rl_aggregate.specs.laws.Counting.{new_counter_counts}
use Rattle.rl_aggregate.specs.declared.partial.Partial.{Partial}

pub scratched : (entries : List Entry) (term : Term) (t : ℕ) (pipelines : List (List Stage)) (before after : CounterView) (partials : List Partial) → pipelines ≡ term.range.stages ∷ []
    → before ≡ record { most = length entries; left = length entries; is_over = false; accumulators = map nothing_counted pipelines }
    → after ≡ fold counted_entry before (filter (is_selected term t) entries)
    → partials ≡ map (λ accumulator. accumulator.found) after.accumulators
    → partials ≡ partial entries term t ∷ []
scratched entries term t pipelines before after partials built new counted found =
    let selected = filter (is_selected term t) entries in
    let few : length selected ≤ length entries = omega (arith, length-filter (is_selected term t) entries, count_by-le-length (is_selected term t) entries) in
    let start : before ≡ record { most = length entries; left = length entries; is_over = false; accumulators = map nothing_counted (term.range.stages ∷ []) } =
    new ∙ (λ i. record { most = length entries; left = length entries; is_over = false; accumulators = map nothing_counted (built i) }) in
    found
    ∙ ap (λ (counter : CounterView). map (λ accumulator. accumulator.found) counter.accumulators) (counted ∙ ap (λ counter. fold counted_entry counter selected) start ∙ new_counter_counts (length entries) (term.range.stages ∷ []) selected few)
