-- The lines of entries, counted one by one: what an accumulator has of them, and a counter. The order of entries does not matter
-- (`partial-permuted` of the laws of runs), and those that are not selected do not count.
use Rattle.std.specs.Prelude.{◌≡◌, ℕ, ◌-◌, ◌≤◌, ◌==◌, ◌||◌, nat_lt, Bool, true, false, cond, ◌&&◌, List, [], ◌∷◌, ◌++◌, map, length, refl}
use Rattle.std.specs.List.{filter, fold}
use Rattle.std.specs.List.Sorted.{IsPermutation}
use Rattle.std.proofs.Common.{sym, ap, ◌∙◌, append_assoc, append-nil, arith}
use Rattle.std.proofs.lemmas.Bool.{ne_eqb, le-ltb}
use Rattle.std.proofs.lemmas.Simd.{map-map}
use Rattle.rl_labels.specs.EntryParts.{longest_line}
use Rattle.rl_labels.specs.Selects.{selects}
use Rattle.rl_labels.specs.declared.entry.Entry.{Entry}
use Rattle.rl_query.specs.declared.query.Term.{Term}
use Rattle.rl_query.specs.declared.stages.Stage.{Stage}
use Rattle.rl_aggregate.specs.Counter.{counted_entry, with_entry}
use Rattle.rl_aggregate.specs.InRange.{runs_of, entry_runs, in_window, is_selected}
use Rattle.rl_aggregate.specs.Partials.{partial, partial_of}
use Rattle.rl_aggregate.specs.Accumulators.{IsAlike, AccumulatorView, nothing_counted, with_line}
use Rattle.rl_aggregate.specs.laws.Runs.{entries-permuted, partial_of-append}
use Rattle.rl_aggregate.specs.declared.run.Run.{Run}

-- an accumulator of some runs, and then of the lines of entries
counted_after : (stages : List Stage) (runs : List Run) (entries : List Entry) → fold with_entry (record { running = stages; found = partial_of runs }) entries ≡ record { running = stages; found = partial_of (runs ++ entry_runs stages entries) }
counted_after stages runs [] = λ i. record { running = stages; found = partial_of (sym (append-nil runs) i) }
counted_after stages runs (e ∷ es) =
    let one = runs_of stages e.labels e.line in
    (λ i. fold with_entry (record { running = stages; found = sym (partial_of-append runs one) i }) es)
    ∙ counted_after stages (runs ++ one) es
    ∙ (λ i. record { running = stages; found = partial_of (append_assoc runs one (entry_runs stages es) i) })

-- an accumulator of the lines of entries has what those that stay add up to
pub counted_entries : (stages : List Stage) (entries : List Entry) → fold with_entry (nothing_counted stages) entries ≡ record { running = stages; found = partial_of (entry_runs stages entries) }
counted_entries stages entries = counted_after stages [] entries

-- a test among those that pass another
pub filter-both : {X : Type 0} (p q : X → Bool) (xs : List X) → filter q (filter p xs) ≡ filter (λ x. p x && q x) xs
filter-both p q [] = refl
filter-both p q (x ∷ xs) = elim (p x) as (λ b. filter q (cond b (x ∷ filter p xs) (filter p xs)) ≡ cond (b && q x) (x ∷ filter (λ y. p y && q y) xs) (filter (λ y. p y && q y) xs)) [
  | true ↦ ap (λ rest. cond (q x) (x ∷ rest) rest) (filter-both p q xs)
  | false ↦ filter-both p q xs
]

-- so of entries in another order, for each term that reads the same lines as the one by which they are selected
pub partial-visited : (lead term : Term) (t : ℕ) (entries order : List Entry) → IsAlike lead term → IsPermutation (filter (is_selected lead t) entries) order → partial_of (entry_runs term.range.stages order) ≡ partial entries term t
partial-visited lead term t entries order alike moved =
    sym (entries-permuted term.range.stages (filter (is_selected lead t) entries) order moved)
    ∙ (λ i. partial_of (entry_runs term.range.stages (filter (λ e. in_window (sym alike.0 i) t e.timestamp && selects (sym alike.1 i).matchers e.labels) entries)))

same_accumulators : (accumulators : List AccumulatorView) → map (λ accumulator. accumulator) accumulators ≡ accumulators
same_accumulators [] = refl
same_accumulators (accumulator ∷ accumulators) = ap (λ rest. accumulator ∷ rest) (same_accumulators accumulators)

-- a line of an entry that still may come is counted
may_come : (left : ℕ) (e : Entry) → 1 ≤ left → (left == 0 || nat_lt longest_line (length e.line)) ≡ false
may_come left e some = λ i. ne_eqb left 0 (λ none. absurd (omega (arith, some, none))) i || le-ltb longest_line (length e.line) e.fits i

-- a counter that may count them all counts the lines of entries in each accumulator
pub counter_counts : (most left : ℕ) (accumulators : List AccumulatorView) (entries : List Entry) → length entries ≤ left
    → fold counted_entry (record { most = most; left = left; is_over = false; accumulators = accumulators }) entries ≡ record { most = most; left = left - length entries; is_over = false; accumulators = map (λ accumulator. fold with_entry accumulator entries) accumulators }
counter_counts most left accumulators [] few =
    let none : left ≡ left - 0 = omega arith in
    λ i. record { most = most; left = none i; is_over = false; accumulators = sym (same_accumulators accumulators) i }
counter_counts most left accumulators (e ∷ es) few =
    let one = map (with_line e.labels e.line) accumulators in
    let others : (left - 1) - length es ≡ left - length (e ∷ es) = omega arith in
    ap (λ over. fold counted_entry (cond over (record { most = most; left = left; is_over = true; accumulators = accumulators }) (record { most = most; left = left - 1; is_over = false; accumulators = one })) es) (may_come left e (omega (arith, few)))
    ∙ counter_counts most (left - 1) one es (omega (arith, few))
    ∙ (λ i. record { most = most; left = others i; is_over = false; accumulators = map-map (λ accumulator. fold with_entry accumulator es) (with_line e.labels e.line) accumulators i })

-- so of one in which nothing is counted
pub new_counter_counts : (most : ℕ) (pipelines : List (List Stage)) (entries : List Entry) → length entries ≤ most
    → fold counted_entry (record { most = most; left = most; is_over = false; accumulators = map nothing_counted pipelines }) entries ≡ record { most = most; left = most - length entries; is_over = false; accumulators = map (λ stages. record { running = stages; found = partial_of (entry_runs stages entries) }) pipelines }
new_counter_counts most pipelines entries few =
    counter_counts most most (map nothing_counted pipelines) entries few
    ∙ (λ i. record { most = most; left = most - length entries; is_over = false; accumulators = (map-map (λ accumulator. fold with_entry accumulator entries) nothing_counted pipelines ∙ each pipelines) i })
  where
    each : (pipelines : List (List Stage)) → map (λ stages. fold with_entry (nothing_counted stages) entries) pipelines ≡ map (λ stages. record { running = stages; found = partial_of (entry_runs stages entries) }) pipelines
    each [] = refl
    each (stages ∷ others) = λ i. counted_entries stages entries i ∷ each others i
