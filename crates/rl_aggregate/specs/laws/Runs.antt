-- What runs of lines add up to: with one more and one less, by their sums alone, one list after another, and in any order.
use Rattle.std.specs.Prelude.{◌≡◌, ℕ, ◌+◌, ◌-◌, ◌==◌, Bool, true, false, cond, not, ◌||◌, List, [], ◌∷◌, ◌++◌, map, length, Option, None, Some, is_some, option_to_list, refl}
use Rattle.std.specs.Option.{unwrap_or, option_eq}
use Rattle.std.specs.List.{AllByRecursion, cons_option, filter, filter_map, flat_map, list_any, sum_by}
use Rattle.std.specs.List.Sorted.{IsPermutation}
use Rattle.std.specs.Ordering.{eq_by_cmp}
use Rattle.std.specs.FinMap.{get, from_entries, get-from_entries}
use Rattle.std.proofs.Common.{sym, ap, ◌∙◌, zero-add, arith}
use Rattle.std.proofs.lemmas.Bool.{and_from, le-leb, ne_eqb, or_parts}
use Rattle.std.proofs.lemmas.Grind.{flat_map-append}
use Rattle.std.proofs.lemmas.List.Elements.{filter-append, filter_map-append}
use Rattle.std.proofs.lemmas.List.Folds.{list_any-append}
use Rattle.std.proofs.lemmas.List.Sums.{sum_by-cons, sum_by-append}
use Rattle.std.proofs.lemmas.List.Sorted.{sum_by-IsPermutation}
use Rattle.rl_labels.specs.LabelSet.{LabelSet}
use Rattle.rl_labels.specs.LabelText.{label_set_cmp}
use Rattle.rl_labels.specs.laws.TextLaws.{label_set_cmp_total}
use Rattle.rl_labels.specs.declared.entry.Entry.{Entry}
use Rattle.rl_pipeline.specs.Running.{run}
use Rattle.rl_query.specs.declared.query.Term.{Term}
use Rattle.rl_query.specs.declared.stages.Stage.{Stage}
use Rattle.rl_aggregate.specs.InRange.{line_run, runs_of, entry_runs, is_selected, in_range}
use Rattle.rl_aggregate.specs.Partials.{has_labels, volume_at, totals_of, partial_of, partial, both_totals, merge}
use Rattle.rl_aggregate.specs.Runs.{with_volume, without_volume, has_at_least, with_run, without_run, has_run, HasLine, IsOneLess, IsOneMore}
use Rattle.rl_aggregate.specs.TotalsMap.{no_total, plus, minus, if_any, total_at, added, taken, has_volume}
use Rattle.rl_aggregate.specs.laws.Totals.{find_keyed, get-added, get-both_totals, get-taken, minus-plus, plus_swap, same_key, same_totals, ties_itself, total_at-added_there}
use Rattle.rl_aggregate.specs.declared.volume.Volume.{Volume}
use Rattle.rl_aggregate.specs.declared.run.Run.{Run}
use Rattle.rl_aggregate.specs.declared.partial.Partial.{Partial}

abbrev tied : LabelSet → LabelSet → Bool
tied = eq_by_cmp label_set_cmp

-- the label sets that runs have
abbrev label_sets : List Run → List LabelSet
label_sets runs = filter_map (λ run. run.labels) runs

-- totals have the volume of each label set that a run has
get-totals_of : (runs : List Run) (q : LabelSet) → get (totals_of runs) q ≡ cond (list_any (tied q) (label_sets runs)) (Some (volume_at runs (Some q))) None
get-totals_of runs q = get-from_entries label_set_cmp_total _ q ∙ find_keyed (λ k. volume_at runs (Some k)) q (label_sets runs)

volume_at-cons : (run : Run) (runs : List Run) (q : Option LabelSet) → volume_at (run ∷ runs) q ≡ cond (has_labels q run) (plus run.volume (volume_at runs q)) (volume_at runs q)
volume_at-cons run runs q =
    let others = volume_at runs q in
    (λ i. record { count = sum_by-cons (λ (r : Run). cond (has_labels q r) r.volume.count 0) run runs i; bytes = sum_by-cons (λ (r : Run). cond (has_labels q r) r.volume.bytes 0) run runs i })
    ∙ elim (has_labels q run) as (λ b. record { count = cond b run.volume.count 0 + others.count; bytes = cond b run.volume.bytes 0 + others.bytes } ≡ cond b (plus run.volume others) others) [
      | true ↦ refl
      | false ↦ λ i. record { count = zero-add others.count i; bytes = zero-add others.bytes i }
    ]

-- where no run has the label set there is no volume
volume_at-none : (runs : List Run) (q : LabelSet) → list_any (tied q) (label_sets runs) ≡ false → volume_at runs (Some q) ≡ no_total
volume_at-none [] q none = refl
volume_at-none (run ∷ runs) q none =
    let others = volume_at runs (Some q) in
    volume_at-cons run runs (Some q)
    ∙ elim (run.labels) as (λ o. list_any (tied q) (cons_option o (label_sets runs)) ≡ false → cond (option_eq tied (Some q) o) (plus run.volume others) others ≡ no_total) [
      | None ↦ λ none. volume_at-none runs q none
      | Some k ↦ λ none.
          let parts = or_parts (tied q k) (list_any (tied q) (label_sets runs)) none in
          ap (λ b. cond b (plus run.volume others) others) parts.0 ∙ volume_at-none runs q parts.1
    ] none

-- so the total at a label set is the volume of its runs, also where none has it
total_at-totals_of : (runs : List Run) (q : LabelSet) → total_at (totals_of runs) q ≡ volume_at runs (Some q)
total_at-totals_of runs q =
    ap (λ t. unwrap_or t no_total) (get-totals_of runs q)
    ∙ elim (list_any (tied q) (label_sets runs)) as (λ b. list_any (tied q) (label_sets runs) ≡ b → unwrap_or (cond b (Some (volume_at runs (Some q))) None) no_total ≡ volume_at runs (Some q)) [
      | true ↦ λ _. refl
      | false ↦ λ none. sym (volume_at-none runs q none)
    ] refl

-- ONE RUN MORE

more : (labels : Option LabelSet) (volume : Volume) (runs : List Run) → partial_of (record { labels = labels; volume = volume } ∷ runs) ≡ with_volume labels volume (partial_of runs)
more None volume runs =
    let run : Run = record { labels = None; volume = volume } in
    let errors = ap (λ (v : Volume). v.count) (volume_at-cons run runs None ∙ plus_swap volume (volume_at runs None)) in
    λ i. record { errors = errors i; totals = from_entries (map (λ labels. (labels, volume_at-cons run runs (Some labels) i)) (label_sets runs)) }
more (Some k) volume runs =
    let run : Run = record { labels = Some k; volume = volume } in
    let errors = ap (λ (v : Volume). v.count) (volume_at-cons run runs None) in
    let totals : totals_of (run ∷ runs) ≡ added (totals_of runs) k volume = same_totals _ _ (λ q.
    let others = volume_at runs (Some q) in
    get-totals_of (run ∷ runs) q
    ∙ (λ i. cond (tied q k || list_any (tied q) (label_sets runs)) (Some (volume_at-cons run runs (Some q) i)) None)
    ∙ elim (tied q k) as (λ b. tied q k ≡ b → cond (b || list_any (tied q) (label_sets runs)) (Some (cond b (plus volume others) others)) None ≡ cond b (Some (plus (total_at (totals_of runs) k) volume)) (get (totals_of runs) q)) [
      | true ↦ λ is. ap (λ t. Some t) (plus_swap volume others ∙ ap (λ t. plus t volume) (sym (total_at-totals_of runs q) ∙ ap (total_at (totals_of runs)) (same_key q k is)))
      | false ↦ λ _. sym (get-totals_of runs q)
    ] refl
    ∙ sym (get-added (totals_of runs) k volume q)) in
    λ i. record { errors = errors i; totals = totals i }

-- of a list with one run more
pub partial_of-more : (run : Run) (runs : List Run) → partial_of (run ∷ runs) ≡ with_run run (partial_of runs)
partial_of-more run runs = more run.labels run.volume runs

-- SUMS ALONE

-- a run has the label set exactly where there is a line of it
counted : (runs : List Run) → AllByRecursion HasLine runs → (q : LabelSet) → list_any (tied q) (label_sets runs) ≡ not ((volume_at runs (Some q)).count == 0)
counted [] lines q = refl
counted (run ∷ runs) lines q =
    let others = volume_at runs (Some q) in
    elim (run.labels) as (λ o. list_any (tied q) (cons_option o (label_sets runs)) ≡ not ((cond (option_eq tied (Some q) o) (plus run.volume others) others).count == 0)) [
      | None ↦ counted runs lines.1 q
      | Some k ↦ elim (tied q k) as (λ b. (b || list_any (tied q) (label_sets runs)) ≡ not ((cond b (plus run.volume others) others).count == 0)) [
        | true ↦ ap not (sym (ne_eqb (run.volume.count + others.count) 0 (λ none. let some = lines.0 in absurd (omega (arith, some, none)))))
        | false ↦ counted runs lines.1 q
      ]
    ]
    ∙ ap (λ (v : Volume). not (v.count == 0)) (sym (volume_at-cons run runs (Some q)))

-- so totals have a label set exactly where there is a line of it
pub get-counted : (runs : List Run) → AllByRecursion HasLine runs → (q : LabelSet) → get (totals_of runs) q ≡ if_any (volume_at runs (Some q))
get-counted runs lines q =
    let volume = volume_at runs (Some q) in
    get-totals_of runs q
    ∙ ap (λ b. cond b (Some volume) None) (counted runs lines q)
    ∙ elim (volume.count == 0) as (λ b. cond (not b) (Some volume) None ≡ cond b None (Some volume)) [ true ↦ refl | false ↦ refl ]

-- and runs with the same sums have one partial
pub partial_of-sums : (runs others : List Run) → AllByRecursion HasLine runs → AllByRecursion HasLine others → ((labels : Option LabelSet) → volume_at runs labels ≡ volume_at others labels) → partial_of runs ≡ partial_of others
partial_of-sums runs others lines other_lines same =
    let totals = same_totals _ _ (λ q. get-counted runs lines q ∙ ap if_any (same (Some q)) ∙ sym (get-counted others other_lines q)) in
    λ i. record { errors = (same None i).count; totals = totals i }

-- ONE RUN LESS

less : (labels : Option LabelSet) (volume : Volume) (runs : List Run) → AllByRecursion HasLine runs → without_volume labels volume (with_volume labels volume (partial_of runs)) ≡ partial_of runs
less None volume runs lines =
    let errors : (volume_at runs None).count + volume.count - volume.count ≡ (volume_at runs None).count = omega arith in
    λ i. record { errors = errors i; totals = totals_of runs }
less (Some k) volume runs lines =
    let before = totals_of runs in
    let with_one = added before k volume in
    let left : minus (total_at with_one k) volume ≡ volume_at runs (Some k) = ap (λ t. minus t volume) (total_at-added_there before k volume) ∙ minus-plus (total_at before k) volume ∙ total_at-totals_of runs k in
    let totals : taken with_one k volume ≡ before = same_totals _ _ (λ q.
    get-taken with_one k volume q
    ∙ (λ i. cond (tied q k) (if_any (left i)) (get-added before k volume q i))
    ∙ elim (tied q k) as (λ b. tied q k ≡ b → cond b (if_any (volume_at runs (Some k))) (cond b (Some (plus (total_at before k) volume)) (get before q)) ≡ get before q) [
      | true ↦ λ is. sym (get-counted runs lines k) ∙ ap (get before) (sym (same_key q k is))
      | false ↦ λ _. refl
    ] refl) in
    λ i. record { errors = (volume_at runs None).count; totals = totals i }

has_more : (labels : Option LabelSet) (volume : Volume) (found : Partial) → has_at_least labels volume (with_volume labels volume found) ≡ true
has_more None volume found = le-leb volume.count (found.errors + volume.count) (omega arith)
has_more (Some k) volume found =
    let sum = plus (total_at found.totals k) volume in
    ap (λ t. has_volume t volume) (get-added found.totals k volume k ∙ ap (λ b. cond b (Some sum) (get found.totals k)) (ties_itself k))
    ∙ and_from _ _ (le-leb volume.count sum.count (omega arith)) (le-leb volume.bytes sum.bytes (omega arith))

-- the partial of a list has its first run
pub has_run-first : (run : Run) (runs : List Run) → has_run run (partial_of (run ∷ runs)) ≡ true
has_run-first run runs = ap (has_run run) (partial_of-more run runs) ∙ has_more run.labels run.volume (partial_of runs)

-- and of a list with one run less
pub partial_of-less : (run : Run) (runs : List Run) → AllByRecursion HasLine runs → without_run run (partial_of (run ∷ runs)) ≡ partial_of runs
partial_of-less run runs lines = ap (without_run run) (partial_of-more run runs) ∙ less run.labels run.volume runs lines

-- so a partial with a run more is of one run more
pub one_more : (run : Run) (before after : Partial) → after ≡ with_run run before → IsOneMore run before after
one_more run before after is = λ runs of. is ∙ ap (with_run run) of ∙ sym (partial_of-more run runs)

-- and one of which it was taken, if it has that, of one run less
pub one_less : (run : Run) (before after : Partial) → after ≡ cond (has_run run before) (without_run run before) before → IsOneLess run before after
one_less run before after is = λ runs lines of.
    is
    ∙ ap (λ found. cond (has_run run found) (without_run run found) found) of
    ∙ ap (λ b. cond b (without_run run (partial_of (run ∷ runs))) (partial_of (run ∷ runs))) (has_run-first run runs)
    ∙ partial_of-less run runs lines

-- ONE LIST AFTER ANOTHER

totals_of-append : (runs others : List Run) → totals_of (runs ++ others) ≡ both_totals (totals_of runs) (totals_of others)
totals_of-append runs others = same_totals _ _ (λ q.
    let volume : volume_at (runs ++ others) (Some q) ≡ plus (volume_at runs (Some q)) (volume_at others (Some q)) = λ i. record {
      count = sum_by-append (λ (r : Run). cond (has_labels (Some q) r) r.volume.count 0) runs others i;
      bytes = sum_by-append (λ (r : Run). cond (has_labels (Some q) r) r.volume.bytes 0) runs others i;
    } in
    get-totals_of (runs ++ others) q
    ∙ (λ i. cond ((ap (list_any (tied q)) (filter_map-append (λ (r : Run). r.labels) runs others) ∙ list_any-append (tied q) (label_sets runs) (label_sets others)) i) (Some (volume i)) None)
    ∙ (λ i. cond (sym (there runs q) i || sym (there others q) i) (Some (plus (sym (total_at-totals_of runs q) i) (sym (total_at-totals_of others q) i))) None)
    ∙ sym (get-both_totals (totals_of runs) (totals_of others) q))
  where
    there : (runs : List Run) (q : LabelSet) → is_some (get (totals_of runs) q) ≡ list_any (tied q) (label_sets runs)
    there runs q = ap is_some (get-totals_of runs q) ∙ elim (list_any (tied q) (label_sets runs)) as (λ b. is_some (cond b (Some (volume_at runs (Some q))) None) ≡ b) [ true ↦ refl | false ↦ refl ]

pub partial_of-append : (runs others : List Run) → partial_of (runs ++ others) ≡ merge (partial_of runs) (partial_of others)
partial_of-append runs others = λ i. record {
  errors = sum_by-append (λ (r : Run). cond (has_labels None r) r.volume.count 0) runs others i;
  totals = totals_of-append runs others i;
}

-- THE LINES OF ENTRIES

-- the partial of one list of entries followed by another is the merge of their partials
pub partial-append : (first second : List Entry) (term : Term) (t : ℕ) → partial (first ++ second) term t ≡ merge (partial first term t) (partial second term t)
partial-append first second term t =
    let runs = entry_runs term.range.stages in
    ap (λ es. partial_of (runs es)) (filter-append (is_selected term t) first second)
    ∙ ap partial_of (flat_map-append (λ (e : Entry). runs_of term.range.stages e.labels e.line) (filter (is_selected term t) first) (filter (is_selected term t) second))
    ∙ partial_of-append (in_range first term t) (in_range second term t)

joined_lines : (runs others : List Run) → AllByRecursion HasLine runs → AllByRecursion HasLine others → AllByRecursion HasLine (runs ++ others)
joined_lines [] others lines other_lines = other_lines
joined_lines (run ∷ runs) others lines other_lines = (lines.0, joined_lines runs others lines.1 other_lines)

module _ (runs : Entry → List Run) where
  sum_by-entries : (f : Run → ℕ) (entries : List Entry) → sum_by f (flat_map runs entries) ≡ sum_by (λ e. sum_by f (runs e)) entries
  sum_by-entries f [] = refl
  sum_by-entries f (e ∷ es) =
      sum_by-append f (runs e) (flat_map runs es)
      ∙ ap (λ n. sum_by f (runs e) + n) (sum_by-entries f es)
      ∙ sym (sum_by-cons (λ e. sum_by f (runs e)) e es)

  sum_by-permuted : (f : Run → ℕ) (entries others : List Entry) → IsPermutation entries others → sum_by f (flat_map runs entries) ≡ sum_by f (flat_map runs others)
  sum_by-permuted f entries others moved = sum_by-entries f entries ∙ sym (sum_by-IsPermutation (λ e. sum_by f (runs e)) entries others moved) ∙ sym (sum_by-entries f others)

  module _ (lines : (e : Entry) → AllByRecursion HasLine (runs e)) where
    all_lines : (entries : List Entry) → AllByRecursion HasLine (flat_map runs entries)
    all_lines [] = tt
    all_lines (e ∷ es) = joined_lines (runs e) (flat_map runs es) (lines e) (all_lines es)

    -- entries in another order
    permuted : (entries others : List Entry) → IsPermutation entries others → partial_of (flat_map runs entries) ≡ partial_of (flat_map runs others)
    permuted entries others moved = partial_of-sums _ _ (all_lines entries) (all_lines others) (λ labels. λ i. record {
      count = sum_by-permuted (λ (r : Run). cond (has_labels labels r) r.volume.count 0) entries others moved i;
      bytes = sum_by-permuted (λ (r : Run). cond (has_labels labels r) r.volume.bytes 0) entries others moved i;
    })

line_of : (stages : List Stage) (e : Entry) → AllByRecursion HasLine (runs_of stages e.labels e.line)
line_of stages e = elim (run stages e.line e.labels) as (λ o. AllByRecursion HasLine (map (λ labels. line_run labels (length e.line)) (option_to_list o))) [ None ↦ tt | Some labels ↦ (omega arith, tt) ]

-- each of them has a line
pub entry_lines : (stages : List Stage) (entries : List Entry) → AllByRecursion HasLine (entry_runs stages entries)
entry_lines stages entries = all_lines (λ e. runs_of stages e.labels e.line) (line_of stages) entries

-- the order of entries does not matter
pub entries-permuted : (stages : List Stage) (entries others : List Entry) → IsPermutation entries others → partial_of (entry_runs stages entries) ≡ partial_of (entry_runs stages others)
entries-permuted stages entries others moved = permuted (λ e. runs_of stages e.labels e.line) (line_of stages) entries others moved

-- also of those that are kept
module _ (keep : Entry → Bool) (stages : List Stage) where
  abbrev kept : Entry → List Run
  kept e = cond (keep e) (runs_of stages e.labels e.line) []

  flat_map-kept : (entries : List Entry) → entry_runs stages (filter keep entries) ≡ flat_map kept entries
  flat_map-kept [] = refl
  flat_map-kept (e ∷ es) = elim (keep e) as (λ b. entry_runs stages (cond b (e ∷ filter keep es) (filter keep es)) ≡ cond b (runs_of stages e.labels e.line) [] ++ flat_map kept es) [
    | true ↦ ap (λ rest. runs_of stages e.labels e.line ++ rest) (flat_map-kept es)
    | false ↦ flat_map-kept es
  ]

  kept_line : (e : Entry) → AllByRecursion HasLine (kept e)
  kept_line e = elim (keep e) as (λ b. AllByRecursion HasLine (cond b (runs_of stages e.labels e.line) [])) [ true ↦ line_of stages e | false ↦ tt ]

  pub kept-permuted : (entries others : List Entry) → IsPermutation entries others → partial_of (entry_runs stages (filter keep entries)) ≡ partial_of (entry_runs stages (filter keep others))
  kept-permuted entries others moved = ap partial_of (flat_map-kept entries) ∙ permuted kept kept_line entries others moved ∙ sym (ap partial_of (flat_map-kept others))

pub partial-permuted : (entries others : List Entry) (term : Term) (t : ℕ) → IsPermutation entries others → partial entries term t ≡ partial others term t
partial-permuted entries others term t moved = kept-permuted (is_selected term t) term.range.stages entries others moved
