-- What a range has of the elements of entries and of lines is what it has of these, and no range has lines beyond the greatest moment.
use Rattle.std.specs.Prelude.{◌≡◌, ℕ, ◌+◌, ◌*◌, ◌≤◌, nat_le, nat_lt, Bool, true, false, cond, not, ◌&&◌, List, [], ◌∷◌, ◌++◌, map, length, Option, None, Some, option_to_list, refl}
use Rattle.std.specs.List.{filter, flat_map}
use Rattle.std.specs.Option.{option_map}
use Rattle.std.proofs.Common.{sym, ap, ◌∙◌, arith}
use Rattle.std.proofs.lemmas.Bool.{and_left, and_right, leb-false, lt-leb}
use Rattle.rl_labels.specs.LabelSet.{LabelSet}
use Rattle.rl_labels.specs.Quantity.{greatest_moment}
use Rattle.rl_labels.specs.Selects.{selects}
use Rattle.rl_labels.specs.declared.entry.Entry.{Entry}
use Rattle.rl_chunks.specs.declared.line.Line.{Line}
use Rattle.rl_parts.specs.Rewriting.{uncovered}
use Rattle.rl_pipeline.specs.Running.{run}
use Rattle.rl_query.specs.declared.query.LogRange.{LogRange}
use Rattle.rl_query.specs.declared.query.Term.{Term}
use Rattle.rl_aggregate.specs.InRange as scratch
use Rattle.rl_aggregate.specs.InRange.{entry_runs, in_window, is_selected, line_run, runs_of, second}
use Rattle.rl_aggregate.specs.Partials.{partial, partial_of}
use Rattle.rl_aggregate.specs.declared.run.Run.{Run}
use Rattle.rl_aggregate.specs.laws.Counting.{filter-both}
use Rattle.rl_windows.specs.Built.{elements_of, line_elements, timely}
use Rattle.rl_windows.specs.Ranges.{code_of, element_of, elements_for, entry_elements}
use Rattle.rl_windows.specs.Windows.{in_range, lines_of, run_of}
use Rattle.rl_windows.specs.declared.element.Element.{Element}

cases : {A : Type 0} (first other : Bool) (xs : List A) → cond other (cond first xs []) [] ≡ cond (first && other) xs []
cases true other xs = refl
cases {A} false other xs = elim other as (λ b. ◌≡◌ {A = List A} (cond b [] []) []) [ true ↦ refl | false ↦ refl ]

module _ (seconds t : ℕ) where
  -- the runs of the elements in the window
  abbrev runs_in : List Element → List Run
  runs_in elements = map run_of (filter (λ line. in_window seconds t line.0.timestamp) (lines_of elements))

  runs_in-append : (xs ys : List Element) → runs_in (xs ++ ys) ≡ runs_in xs ++ runs_in ys
  runs_in-append [] ys = refl
  runs_in-append (x ∷ xs) ys =
      let kept = λ (es : List Element). filter (λ line. in_window seconds t line.0.timestamp) (lines_of es) in
      elim (in_window seconds t x.stamp.timestamp) as (λ b. map run_of (cond b ((x.stamp, x.volume) ∷ kept (xs ++ ys)) (kept (xs ++ ys))) ≡ map run_of (cond b ((x.stamp, x.volume) ∷ kept xs) (kept xs)) ++ runs_in ys) [
        | true ↦ ap (λ runs. run_of (x.stamp, x.volume) ∷ runs) (runs_in-append xs ys)
        | false ↦ runs_in-append xs ys
      ]

  -- of a line with its labels after the stages, if it stays
  runs_in-line : (timestamp bytes : ℕ) (after : Option LabelSet)
      → runs_in (option_to_list (option_map (λ labels. element_of timestamp (line_run labels bytes)) after)) ≡ cond (in_window seconds t timestamp) (map (λ labels. line_run labels bytes) (option_to_list after)) []
  runs_in-line timestamp bytes None = elim (in_window seconds t timestamp) as (λ b. ◌≡◌ {A = List Run} [] (cond b [] [])) [ true ↦ refl | false ↦ refl ]
  runs_in-line timestamp bytes (Some labels) =
      let element = element_of timestamp (line_run labels bytes) in
      elim (in_window seconds t timestamp) as (λ b. map run_of (cond b ((element.stamp, element.volume) ∷ []) []) ≡ cond b (line_run labels bytes ∷ []) []) [ true ↦ refl | false ↦ refl ]

module _ (term : Term) (t : ℕ) where
  runs_in-entry : (entry : Entry) → runs_in term.range.seconds t (entry_elements (code_of term) entry) ≡ cond (is_selected term t entry) (runs_of term.range.stages entry.labels entry.line) []
  runs_in-entry entry =
      let after = run term.range.stages entry.line entry.labels in
      let is_in = in_window term.range.seconds t entry.timestamp in
      let is_asked = selects term.range.selector.matchers entry.labels in
      elim is_asked as (λ b. runs_in term.range.seconds t (option_to_list (cond b (option_map (λ labels. element_of entry.timestamp (line_run labels (length entry.line))) after) None)) ≡ cond b (cond is_in (runs_of term.range.stages entry.labels entry.line) []) []) [
        | true ↦ runs_in-line term.range.seconds t entry.timestamp (length entry.line) after
        | false ↦ refl
      ]
      ∙ cases is_in is_asked (runs_of term.range.stages entry.labels entry.line)

  runs_in-entries : (entries : List Entry) → runs_in term.range.seconds t (elements_for (code_of term) entries) ≡ scratch.in_range entries term t
  runs_in-entries [] = refl
  runs_in-entries (entry ∷ entries) =
      let runs = runs_of term.range.stages entry.labels entry.line in
      let rest = runs_in term.range.seconds t (elements_for (code_of term) entries) in
      let selected = filter (is_selected term t) entries in
      runs_in-append term.range.seconds t (entry_elements (code_of term) entry) (elements_for (code_of term) entries)
      ∙ ap (λ own. own ++ rest) (runs_in-entry entry)
      ∙ elim (is_selected term t entry) as (λ b. cond b runs [] ++ rest ≡ flat_map (λ entry. runs_of term.range.stages entry.labels entry.line) (cond b (entry ∷ selected) selected)) [
        | true ↦ ap (λ rest. runs ++ rest) (runs_in-entries entries)
        | false ↦ runs_in-entries entries
      ]

  -- what the range of a term has of the elements of entries at a moment adds up to the partial of the entries
  pub in_range-elements_for : (entries : List Entry) → in_range term.range.seconds t (elements_for (code_of term) entries) ≡ partial entries term t
  in_range-elements_for entries = ap partial_of (runs_in-entries entries)

module _ (range : LogRange) (t : ℕ) where
  runs_in-lines : (lines : List (LabelSet × Line))
      → runs_in range.seconds t (elements_of range.stages lines) ≡ flat_map (λ line. runs_of range.stages line.0 line.1.text) (filter (λ line. in_window range.seconds t line.1.timestamp) lines)
  runs_in-lines [] = refl
  runs_in-lines (line ∷ lines) =
      let runs = runs_of range.stages line.0 line.1.text in
      let rest = runs_in range.seconds t (elements_of range.stages lines) in
      let is_in = in_window range.seconds t line.1.timestamp in
      let kept = filter (λ (line : LabelSet × Line). in_window range.seconds t line.1.timestamp) lines in
      runs_in-append range.seconds t (line_elements range.stages line) (elements_of range.stages lines)
      ∙ ap (λ own. own ++ rest) (runs_in-line range.seconds t line.1.timestamp (length line.1.text) (run range.stages line.1.text line.0))
      ∙ elim is_in as (λ b. cond b runs [] ++ rest ≡ flat_map (λ (line : LabelSet × Line). runs_of range.stages line.0 line.1.text) (cond b (line ∷ kept) kept)) [
        | true ↦ ap (λ rest. runs ++ rest) (runs_in-lines lines)
        | false ↦ runs_in-lines lines
      ]

  -- what it has of the elements of lines is what those in the window add up to
  pub in_range-elements_of : (lines : List (LabelSet × Line))
      → in_range range.seconds t (elements_of range.stages lines) ≡ partial_of (flat_map (λ line. runs_of range.stages line.0 line.1.text) (filter (λ line. in_window range.seconds t line.1.timestamp) lines))
  in_range-elements_of lines = ap partial_of (runs_in-lines lines)

-- entries beyond the greatest moment count in no range
pub partial-timely : (covers : Entry → Bool) (entries : List Entry) (term : Term) (t : ℕ) → t ≤ greatest_moment
    → partial (uncovered covers (timely entries)) term t ≡ partial (uncovered covers entries) term t
partial-timely covers entries term t early =
    let shown = λ (entry : Entry). not (covers entry) in
    let is_timely = λ (entry : Entry). nat_le entry.timestamp greatest_moment in
    let is_in = is_selected term t in
    ap (λ kept. partial_of (entry_runs term.range.stages kept)) (
    ap (filter is_in) (filter-both is_timely shown entries)
    ∙ filter-both (λ entry. is_timely entry && shown entry) is_in entries
    ∙ (λ i. filter (λ entry. alike entry i) entries)
    ∙ sym (filter-both shown is_in entries)
    )
  where
    alike : (entry : Entry) → ((nat_le entry.timestamp greatest_moment && not (covers entry)) && is_selected term t entry) ≡ (not (covers entry) && is_selected term t entry)
    alike entry =
        let shown = not (covers entry) in
        let is_in = is_selected term t entry in
        elim (nat_le entry.timestamp greatest_moment) as (λ b. nat_le entry.timestamp greatest_moment ≡ b → ((b && shown) && is_in) ≡ (shown && is_in)) [
          | true ↦ λ _. refl
          | false ↦ λ late.
              let beyond = leb-false entry.timestamp greatest_moment late in
              let out = and_right (nat_lt t (entry.timestamp + term.range.seconds * second)) (nat_le entry.timestamp t) (lt-leb entry.timestamp t (omega (arith, early, beyond))) in
              sym (and_right shown is_in (and_left _ _ out))
        ] refl
