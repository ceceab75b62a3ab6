-- No range visits lines beyond the greatest moment.
use Rattle.std.specs.Prelude.{◌≡◌, ℕ, ◌+◌, ◌≤◌, nat_le, nat_lt, Bool, true, false, cond, not, ◌&&◌, List, [], ◌∷◌, ◌++◌, length, Option, None, Some, option_map, option_to_list, refl}
use Rattle.std.specs.List.{filter}
use Rattle.std.proofs.Common.{sym, ap, ◌∙◌, arith}
use Rattle.std.proofs.lemmas.Bool.{and_right, leb-false, le-ltb}
use Rattle.rl_labels.specs.LabelSet.{LabelSet}
use Rattle.rl_labels.specs.Quantity.{greatest_moment}
use Rattle.rl_labels.specs.Selects.{selects}
use Rattle.rl_labels.specs.declared.entry.Entry.{Entry}
use Rattle.rl_parts.specs.Rewriting.{uncovered}
use Rattle.rl_pipeline.specs.Running.{run}
use Rattle.rl_query.specs.declared.query.Term.{Term}
use Rattle.rl_aggregate.specs.InRange.{line_run}
use Rattle.rl_windows.specs.Buckets.{Lines}
use Rattle.rl_windows.specs.Built.{timely}
use Rattle.rl_windows.specs.Ranges.{code_of, element_of, elements_for, entry_elements}
use Rattle.rl_windows.specs.Windows.{first_needed, is_between, lines_of, moments}
use Rattle.rl_windows.specs.declared.element.Element.{Element}
use Rattle.rl_windows.specs.declared.range.RangeCode.{RangeCode}
use Rattle.rl_slots.specs.Slots.{visits_for}

-- the lines of elements between two moments
abbrev kept : (low high : ℕ) → List Element → Lines
kept low high elements = filter (λ line. is_between low high line.0) (lines_of elements)

module _ (low high : ℕ) where
  kept-append : (xs ys : List Element) → kept low high (xs ++ ys) ≡ kept low high xs ++ kept low high ys
  kept-append [] ys = refl
  kept-append (x ∷ xs) ys = elim (is_between low high x.stamp) as (λ b. cond b ((x.stamp, x.volume) ∷ kept low high (xs ++ ys)) (kept low high (xs ++ ys)) ≡ cond b ((x.stamp, x.volume) ∷ kept low high xs) (kept low high xs) ++ kept low high ys) [
    | true ↦ ap (λ rest. (x.stamp, x.volume) ∷ rest) (kept-append xs ys)
    | false ↦ kept-append xs ys
  ]

  module _ (code : RangeCode) (early : high ≤ greatest_moment + 1) where
    -- a line beyond the greatest moment is not among them
    none_late : (entry : Entry) → nat_le entry.timestamp greatest_moment ≡ false → kept low high (entry_elements code entry) ≡ []
    none_late entry late =
        let beyond = leb-false entry.timestamp greatest_moment late in
        let out : (nat_le low entry.timestamp && nat_lt entry.timestamp high) ≡ false = and_right (nat_le low entry.timestamp) (nat_lt entry.timestamp high) (le-ltb entry.timestamp high (omega (arith, early, beyond))) in
        elim (selects code.selector entry.labels) as (λ b. kept low high (option_to_list (cond b (option_map (λ labels. element_of entry.timestamp (line_run labels (length entry.line))) (run code.pipeline entry.line entry.labels)) None)) ≡ []) [
          | true ↦ elim (run code.pipeline entry.line entry.labels) as (λ (after : Option LabelSet). kept low high (option_to_list (option_map (λ labels. element_of entry.timestamp (line_run labels (length entry.line))) after)) ≡ []) [
            | None ↦ refl
            | Some labels ↦
                let element = element_of entry.timestamp (line_run labels (length entry.line)) in
                ap (λ b. cond b ((element.stamp, element.volume) ∷ []) []) out
          ]
          | false ↦ refl
        ]

    kept-timely : (hides : Entry → Bool) (entries : List Entry) → kept low high (elements_for code (uncovered hides (timely entries))) ≡ kept low high (elements_for code (uncovered hides entries))
    kept-timely hides [] = refl
    kept-timely hides (entry ∷ entries) =
        let own = entry_elements code entry in
        let shown = uncovered hides entries in
        let shown_timely = uncovered hides (timely entries) in
        let rest = kept-timely hides entries in
        elim (nat_le entry.timestamp greatest_moment) as (λ b. nat_le entry.timestamp greatest_moment ≡ b
        → kept low high (elements_for code (uncovered hides (cond b (entry ∷ timely entries) (timely entries)))) ≡ kept low high (elements_for code (cond (not (hides entry)) (entry ∷ shown) shown))) [
          | true ↦ λ _.
              elim (not (hides entry)) as (λ b. kept low high (elements_for code (cond b (entry ∷ shown_timely) shown_timely)) ≡ kept low high (elements_for code (cond b (entry ∷ shown) shown))) [
                | true ↦ kept-append own (elements_for code shown_timely) ∙ ap (λ others. kept low high own ++ others) rest ∙ sym (kept-append own (elements_for code shown))
                | false ↦ rest
              ]
          | false ↦ λ late.
              elim (not (hides entry)) as (λ b. kept low high (elements_for code shown_timely) ≡ kept low high (elements_for code (cond b (entry ∷ shown) shown))) [
                | true ↦ rest ∙ ap (λ own. own ++ kept low high (elements_for code shown)) (sym (none_late entry late)) ∙ sym (kept-append own (elements_for code shown))
                | false ↦ rest
              ]
        ] refl

-- a range visits of entries what it visits of those at moments that there are
pub visits-timely : (hides : Entry → Bool) (entries : List Entry) (since t : ℕ) (term : Term) → t ≤ greatest_moment → visits_for (uncovered hides (timely entries)) since t term ≡ visits_for (uncovered hides entries) since t term
visits-timely hides entries since t term early =
    let code = code_of term in
    let seconds = term.range.seconds in
    let come = kept-timely (since + 1) (t + 1) code (omega (arith, early)) hides entries in
    let left = kept-timely (first_needed seconds since) (first_needed seconds t) code (before seconds) hides entries in
    (λ i. moments (come i) + moments (left i))
  where
    before : (seconds : ℕ) → first_needed seconds t ≤ greatest_moment + 1
    before seconds = omega (arith, early)
