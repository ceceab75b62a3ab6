-- Windows that lines come into one by one stand for them, and for the entries whose lines they are.
use Rattle.std.specs.Prelude.{ℕ, ◌+◌, ◌-◌, ◌*◌, ◌≤◌, ◌==◌, ◌||◌, nat_le, nat_lt, Bool, Option, None, Some, option_to_list, true, false, cond, not, ◌&&◌, List, [], ◌∷◌, ◌++◌, length, map, get_or, refl}
use Rattle.std.specs.FinMap.{keys}
use Rattle.std.specs.List.{AllByRecursion, AllZip, filter, flat_map, fold, sum_by}
use Rattle.std.specs.List.Sorted.{IsPermutation}
use Rattle.std.specs.Option.{option_map, unwrap_or}
use Rattle.std.proofs.Common.{◌≡◌, Bor, sym, ap, subst, ◌∙◌, append-nil, append_assoc, arith}
use Rattle.std.proofs.lemmas.Bool.{ne_eqb, le-ltb, leb-false, ltb-false, true≢false}
use Rattle.std.proofs.lemmas.List.{length-map}
use Rattle.std.proofs.lemmas.List.Elements.{All-from_recursion}
use Rattle.std.proofs.lemmas.List.Sorted.{length_permutation, sum_by-IsPermutation}
use Rattle.std.proofs.lemmas.List.Sums.{count_by-le-length, length-filter, sum_by-append, sum_by-cons}
use Rattle.std.proofs.lemmas.Simd.{map-map}
use Rattle.rl_labels.specs.EntryParts.{longest_line}
use Rattle.rl_labels.specs.LabelSet.{LabelSet}
use Rattle.rl_labels.specs.Quantity.{greatest_moment}
use Rattle.rl_labels.specs.Selects.{selects}
use Rattle.rl_labels.specs.declared.entry.Entry.{Entry}
use Rattle.rl_labels.specs.declared.matcher.Matcher.{Matcher}
use Rattle.rl_chunks.specs.declared.line.Line.{Line}
use Rattle.rl_parts.specs.Reading.{visited}
use Rattle.rl_parts.specs.Rewriting.{uncovered}
use Rattle.rl_pipeline.specs.Metering.{Metered}
use Rattle.rl_pipeline.specs.Running.{run}
use Rattle.rl_query.specs.declared.query.Term.{Term}
use Rattle.rl_query.specs.declared.stages.Stage.{Stage}
use Rattle.rl_aggregate.specs.InRange.{line_run, second}
use Rattle.rl_aggregate.specs.TotalsMap.{added}
use Rattle.rl_aggregate.specs.declared.volume.Volume.{Volume}
use Rattle.rl_deletes.specs.Deletes.{covered, covered_line, RequestsView}
use Rattle.rl_streams.specs.Asking.{asked, is_asked, AreOfRow, AreVisited, AreVisitedOnce}
use Rattle.rl_streams.specs.StreamsState.{StreamsView}
use Rattle.rl_windows.specs.Buckets.{Lines, volume_of, AreAlike, AreShort, IsShort}
use Rattle.rl_windows.specs.Built.{elements_of, line_elements, not_hidden, timely, AreBuilt, IsBuiltOf, IsReadFrom}
use Rattle.rl_windows.specs.Filling.{counted_in, filled, is_out, nothing_in, with_line, with_runs, FillingsView}
use Rattle.rl_windows.specs.Ranges.{code_of, element_of, elements_for, entry_elements, line_element}
use Rattle.rl_windows.specs.Windows.{first_needed, is_needed, lines_of, with_element, IsOfSameRange, StandsFor, WindowView}
use Rattle.rl_windows.specs.laws.Alike.{alike-filter, volume_of-filter}
use Rattle.rl_windows.specs.declared.building.Building.{Building}
use Rattle.rl_windows.specs.declared.element.Element.{Element}
use Rattle.rl_windows.specs.declared.element.Stamp.{Stamp}
use Rattle.rl_windows.specs.declared.filling.Filling.{Filling}
use Rattle.rl_windows.proofs.Moving.{no_entries}
use Rattle.rl_windows.proofs.Standing.{comes, stays_out}

-- SUMS

sum_by-map : {X Y : Type 0} (f : Y → ℕ) (g : X → Y) (xs : List X) → sum_by f (map g xs) ≡ sum_by (λ x. f (g x)) xs
sum_by-map f g [] = refl
sum_by-map f g (x ∷ xs) = sum_by-cons f (g x) (map g xs) ∙ ap (λ n. f (g x) + n) (sum_by-map f g xs) ∙ sym (sum_by-cons (λ x. f (g x)) x xs)

sum_by-flat : {X Y : Type 0} (f : Y → ℕ) (g : X → List Y) (xs : List X) → sum_by f (flat_map g xs) ≡ sum_by (λ x. sum_by f (g x)) xs
sum_by-flat f g [] = refl
sum_by-flat f g (x ∷ xs) = sum_by-append f (g x) (flat_map g xs) ∙ ap (λ n. sum_by f (g x) + n) (sum_by-flat f g xs) ∙ sym (sum_by-cons (λ x. sum_by f (g x)) x xs)

sum_by-filter : {X : Type 0} (f : X → ℕ) (p : X → Bool) (xs : List X) → sum_by f (filter p xs) ≡ sum_by (λ x. cond (p x) (f x) 0) xs
sum_by-filter f p [] = refl
sum_by-filter f p (x ∷ xs) =
    elim (p x) as (λ b. sum_by f (cond b (x ∷ filter p xs) (filter p xs)) ≡ cond b (f x) 0 + sum_by (λ x. cond (p x) (f x) 0) xs) [
      | true ↦ sum_by-cons f x (filter p xs) ∙ ap (λ n. f x + n) (sum_by-filter f p xs)
      | false ↦ omega (arith, sum_by-filter f p xs)
    ]
    ∙ sym (sum_by-cons (λ x. cond (p x) (f x) 0) x xs)

-- ONE WINDOW

abbrev fits : LabelSet × Line → Type 0
fits line = length line.1.text ≤ longest_line

-- the line comes into a window
abbrev lets : Filling → LabelSet × Line → Filling
lets filling line = with_line (record { labels = line.0; text = line.1.text }) line.1.timestamp filling

lines_append : (es fs : List Element) → lines_of (es ++ fs) ≡ lines_of es ++ lines_of fs
lines_append [] fs = refl
lines_append (e ∷ es) fs = ap (λ rest. (e.stamp, e.volume) ∷ rest) (lines_append es fs)

short_append : (es fs : List Element) → AreShort (lines_of es) → AreShort (lines_of fs) → AreShort (lines_of (es ++ fs))
short_append [] fs short more = more
short_append (e ∷ es) fs short more = (short.0, short_append es fs short.1 more)

alike_swapped : (xs ys : Lines) → AreAlike (xs ++ ys) (ys ++ xs)
alike_swapped xs ys test =
    let counts = λ (line : Stamp × Volume). cond (test line.0) line.1.count 0 in
    let bytes = λ (line : Stamp × Volume). cond (test line.0) line.1.bytes 0 in
    let same : sum_by counts (xs ++ ys) ≡ sum_by counts (ys ++ xs) = omega (arith, sum_by-append counts xs ys, sum_by-append counts ys xs) in
    let too : sum_by bytes (xs ++ ys) ≡ sum_by bytes (ys ++ xs) = omega (arith, sum_by-append bytes xs ys, sum_by-append bytes ys xs) in
    λ i. record { count = same i; bytes = too i }

stands_with : (w : WindowView) (e : Element) → IsShort e.volume → (es : List Element) → StandsFor w es → StandsFor (with_element e w) (e ∷ es)
stands_with w e short es stands =
    elim (is_needed w.seconds w.moment e.stamp) as (λ b. is_needed w.seconds w.moment e.stamp ≡ b → StandsFor (cond b (record w { buckets = added w.buckets e.stamp e.volume }) w) (e ∷ es)) [
      | true ↦ λ is. comes w.seconds w.moment w.most w.buckets e is short es stands
      | false ↦ λ is. stays_out w.seconds w.moment w.most w.buckets e short is es stands
    ] refl

-- it stands for the elements with the line's at their end
stands_more : (stages : List Stage) (w : WindowView) (es : List Element) (line : LabelSet × Line) → fits line → StandsFor w es → StandsFor (lets (record { running = stages; window = w }) line).window (es ++ line_elements stages line)
stands_more stages w es line short stands =
    let timestamp = line.1.timestamp in
    let bytes = length line.1.text in
    elim (run stages line.1.text line.0) as (λ (after : Option LabelSet). StandsFor (unwrap_or (option_map (λ e. with_element e w) (option_map (λ labels. element_of timestamp (line_run labels bytes)) after)) w) (es ++ option_to_list (option_map (λ labels. element_of timestamp (line_run labels bytes)) after))) [
      | None ↦ subst (StandsFor w) (sym (append-nil es)) stands
      | Some labels ↦
          let e = element_of timestamp (line_run labels bytes) in
          let own : IsShort e.volume = (omega arith, omega (arith, short)) in
          let with_e = stands_with w e own es stands in (
            short_append es (e ∷ []) stands.0 (own, tt),
            λ test.
                with_e.1 test
                ∙ alike-filter (is_needed (with_element e w).seconds (with_element e w).moment) (lines_of (e ∷ es)) (lines_of (es ++ e ∷ []))
                (λ test. alike_swapped ((e.stamp, e.volume) ∷ []) (lines_of es) test ∙ ap (volume_of test) (sym (lines_append es (e ∷ [])))) test,
          )
    ]

stands_lines : (stages : List Stage) (w : WindowView) (es : List Element) (lines : List (LabelSet × Line)) → AllByRecursion fits lines → StandsFor w es → StandsFor (fold lets (record { running = stages; window = w }) lines).window (es ++ elements_of stages lines)
stands_lines stages w es [] short stands = subst (StandsFor w) (sym (append-nil es)) stands
stands_lines stages w es (line ∷ lines) short stands =
    let one = lets (record { running = stages; window = w }) line in
    subst (StandsFor (fold lets one lines).window) (append_assoc es (line_elements stages line) (elements_of stages lines))
    (stands_lines stages one.window (es ++ line_elements stages line) lines short.1 (stands_more stages w es line short.0 stands))

-- and stays one of its range at its moment
range_with : (w : WindowView) (e : Element) → IsOfSameRange w (with_element e w)
range_with w e = elim (is_needed w.seconds w.moment e.stamp) as (λ b. IsOfSameRange w (cond b (record w { buckets = added w.buckets e.stamp e.volume }) w)) [ true ↦ (refl, refl, refl) | false ↦ (refl, refl, refl) ]

range_more : (stages : List Stage) (w : WindowView) (line : LabelSet × Line) → IsOfSameRange w (lets (record { running = stages; window = w }) line).window
range_more stages w line =
    let timestamp = line.1.timestamp in
    let bytes = length line.1.text in
    elim (run stages line.1.text line.0) as (λ (after : Option LabelSet). IsOfSameRange w (unwrap_or (option_map (λ e. with_element e w) (option_map (λ labels. element_of timestamp (line_run labels bytes)) after)) w)) [
      | None ↦ (refl, refl, refl)
      | Some labels ↦ range_with w (element_of timestamp (line_run labels bytes))
    ]

range_lines : (stages : List Stage) (w : WindowView) (lines : List (LabelSet × Line)) → IsOfSameRange w (fold lets (record { running = stages; window = w }) lines).window
range_lines stages w [] = (refl, refl, refl)
range_lines stages w (line ∷ lines) =
    let one = range_more stages w line in
    let rest = range_lines stages (lets (record { running = stages; window = w }) line).window lines in
    (rest.0 ∙ one.0, rest.1 ∙ one.1, rest.2 ∙ one.2)

-- ALL WINDOWS

abbrev pub State : Type 0
State = FillingsView × Metered

abbrev pub comes_in : State → LabelSet × Line → State
comes_in state line = (filled (record { labels = line.0; text = line.1.text }) line.1.timestamp state.0, counted_in (length line.1.text) state.0 state.1)

-- what lines make of windows that had room for all of them
pub record CameIn (before after : State) (lines : List (LabelSet × Line)) : Type 0 where
  pub fit : AllByRecursion fits lines
  pub each : after.0.each ≡ map (λ filling. fold lets filling lines) before.0.each
  pub counted : after.1 ≡ fold (λ meter _. with_runs (length before.0.each) meter) before.1 lines

abbrev over : State → State
over state = (record { left = state.0.left; is_over = true; each = state.0.each }, state.1)

abbrev one_more : State → LabelSet × Line → State
one_more state line = (record { left = state.0.left - 1; is_over = state.0.is_over; each = map (λ filling. lets filling line) state.0.each }, with_runs (length state.0.each) state.1)

by_room : (state : State) (line : LabelSet × Line) (b : Bool) → is_out (length line.1.text) state.0 ≡ b → comes_in state line ≡ cond b (over state) (one_more state line)
by_room state line true is = (λ i. (cond (is i) (over state).0 (one_more state line).0, cond (is i) state.1 (one_more state line).1))
by_room state line false is = (λ i. (cond (is i) (over state).0 (one_more state line).0, cond (is i) state.1 (one_more state line).1))

over_stays : (state : State) (lines : List (LabelSet × Line)) → state.0.is_over ≡ true → (fold comes_in state lines).0.is_over ≡ true
over_stays state [] is = is
over_stays state (line ∷ lines) is =
    elim (is_out (length line.1.text) state.0) as (λ b. is_out (length line.1.text) state.0 ≡ b → (fold comes_in (comes_in state line) lines).0.is_over ≡ true) [
      | true ↦ λ out. ap (λ s. (fold comes_in s lines).0.is_over) (by_room state line true out) ∙ over_stays (over state) lines refl
      | false ↦ λ out. ap (λ s. (fold comes_in s lines).0.is_over) (by_room state line false out) ∙ over_stays (one_more state line) lines is
    ] refl

same_each : (xs : List Filling) → xs ≡ map (λ filling. filling) xs
same_each [] = refl
same_each (x ∷ xs) = ap (λ rest. x ∷ rest) (same_each xs)

pub came_in : (state : State) (lines : List (LabelSet × Line)) → (fold comes_in state lines).0.is_over ≡ false → CameIn state (fold comes_in state lines) lines
came_in state [] room = record { fit = tt; each = same_each state.0.each; counted = refl }
came_in state (line ∷ lines) room =
    elim (is_out (length line.1.text) state.0) as (λ b. is_out (length line.1.text) state.0 ≡ b → CameIn state (fold comes_in (comes_in state line) lines) (line ∷ lines)) [
      | true ↦ λ out. absurd (true≢false (sym (ap (λ s. (fold comes_in s lines).0.is_over) (by_room state line true out) ∙ over_stays (over state) lines refl) ∙ room))
      | false ↦ λ out.
          let more = one_more state line in
          let next = by_room state line false out in
          let rest = came_in more lines (sym (ap (λ s. (fold comes_in s lines).0.is_over) next) ∙ room) in
          record {
            fit = (short line (state.0.left == 0) out, rest.fit);
            each =
                ap (λ s. (fold comes_in s lines).0.each) next
                ∙ rest.each
                ∙ map-map (λ filling. fold lets filling lines) (λ filling. lets filling line) state.0.each;
            counted =
                ap (λ s. (fold comes_in s lines).1) next
                ∙ rest.counted
                ∙ ap (λ n. fold (λ meter _. with_runs n meter) (with_runs (length state.0.each) state.1) lines) (length-map state.0.each (λ filling. lets filling line));
          }
    ] refl
  where
    short : (line : LabelSet × Line) (none : Bool) → (none || nat_lt longest_line (length line.1.text)) ≡ false → fits line
    short line true is = absurd (true≢false is)
    short line false is = ltb-false longest_line (length line.1.text) is

-- so windows of the ranges of terms are built of lines
pub built_of : (most moment : ℕ) (lines : List (LabelSet × Line)) → AllByRecursion fits lines → (terms : List Term)
    → AllZip (IsBuiltOf most moment lines) terms (map (λ (filling : Filling). filling.window) (map (λ (filling : Filling). fold lets filling lines) (map (nothing_in moment most) terms)))
built_of most moment lines short [] = tt
built_of most moment lines short (term ∷ terms) =
    let none = (nothing_in moment most term).window in
    let same = range_lines term.range.stages none lines in (
      record {
        range = same.0;
        moment_is = same.1;
        room = same.2;
        stands = stands_lines term.range.stages none [] lines short (tt, λ test. ap (λ es. volume_of test es) no_entries);
      },
      built_of most moment lines short terms,
    )

-- WHAT IS HIDDEN STAYS OUT

module _ (hides : LabelSet → ℕ → List ℕ → Bool) where
  abbrev pub is_hidden : LabelSet × Line → Bool
  is_hidden line = hides line.0 line.1.timestamp line.1.text

  -- a visitor that lets in what is not hidden
  pub lets_shown : {T : Type 0} (step : T → LabelSet × Line → T) (make : State → T) → ((state : State) (line : LabelSet × Line) → step (make state) line ≡ cond (is_hidden line) (make state) (make (comes_in state line)))
      → (state : State) (lines : List (LabelSet × Line)) → fold step (make state) lines ≡ make (fold comes_in state (not_hidden hides lines))
  lets_shown step make steps state [] = refl
  lets_shown step make steps state (line ∷ lines) =
      ap (λ visitor. fold step visitor lines) (steps state line)
      ∙ elim (is_hidden line) as (λ b. fold step (cond b (make state) (make (comes_in state line))) lines ≡ make (fold comes_in state (cond (not b) (line ∷ not_hidden hides lines) (not_hidden hides lines)))) [
        | true ↦ lets_shown step make steps state lines
        | false ↦ lets_shown step make steps (comes_in state line) lines
      ]

-- LINES OF ENTRIES

-- what an entry adds that is asked for, and what is shown of it
one_entry : (selected early timely shown : Bool) (of_visited of_added : ℕ) → (selected ≡ true → of_added ≡ of_visited) → (selected ≡ false → of_added ≡ 0) → (early ≡ false → of_visited ≡ 0) → cond (selected && (early && timely)) (cond shown of_visited 0) 0 ≡ cond timely (cond shown of_added 0) 0
one_entry true true true shown v a same none late = ap (λ n. cond shown n 0) (sym (same refl))
one_entry true true false shown v a same none late = refl
one_entry true false true true v a same none late = sym (same refl ∙ late refl)
one_entry true false true false v a same none late = refl
one_entry true false false shown v a same none late = refl
one_entry false early true true v a same none late = sym (none refl)
one_entry false early true false v a same none late = refl
one_entry false early false shown v a same none late = refl

short_element : (bytes timestamp : ℕ) (after : Option LabelSet) → bytes ≤ longest_line → AreShort (lines_of (option_to_list (option_map (λ labels. element_of timestamp (line_run labels bytes)) after)))
short_element bytes timestamp None short = tt
short_element bytes timestamp (Some labels) short = ((omega arith, omega (arith, short)), tt)

short_entry : (term : Term) (e : Entry) → AreShort (lines_of (entry_elements (code_of term) e))
short_entry term e =
    elim (selects term.range.selector.matchers e.labels) as (λ b. AreShort (lines_of (option_to_list (cond b (line_element term.range.stages (record { labels = e.labels; text = e.line }) e.timestamp) None)))) [
      | true ↦ short_element (length e.line) e.timestamp (run term.range.stages e.line e.labels) e.fits
      | false ↦ tt
    ]

short_entries : (term : Term) (es : List Entry) → AreShort (lines_of (elements_for (code_of term) es))
short_entries term [] = tt
short_entries term (e ∷ es) = short_append (entry_elements (code_of term) e) (elements_for (code_of term) es) (short_entry term e) (short_entries term es)

module _ (hides : LabelSet → ℕ → List ℕ → Bool) (covers : Entry → Bool) (by_parts : (e : Entry) → covers e ≡ hides e.labels e.timestamp e.line) (term : Term) (moment start : ℕ) (from_start : start ≤ first_needed term.range.seconds moment) where
  abbrev stages : List Stage
  stages = term.range.stages

  abbrev matchers : List Matcher
  matchers = term.range.selector.matchers

  module _ (test : Stamp → Bool) (number : Volume → ℕ) where
    abbrev of_line : Stamp × Volume → ℕ
    of_line line = cond (is_needed term.range.seconds moment line.0 && test line.0) (number line.1) 0

    abbrev of_element : Element → ℕ
    of_element element = of_line (element.stamp, element.volume)

    abbrev of_visited : Entry → ℕ
    of_visited e = sum_by of_element (line_elements stages (visited e))

    abbrev of_added : Entry → ℕ
    of_added e = sum_by of_element (entry_elements (code_of term) e)

    -- before the start nothing is needed
    not_needed : (e : Entry) → nat_le start e.timestamp ≡ false → of_visited e ≡ 0
    not_needed e is =
        elim (run stages e.line e.labels) as (λ (after : Option LabelSet). sum_by of_element (option_to_list (option_map (λ labels. element_of e.timestamp (line_run labels (length e.line))) after)) ≡ 0) [
          | None ↦ refl
          | Some labels ↦
              let element = element_of e.timestamp (line_run labels (length e.line)) in
              let before = leb-false start e.timestamp is in
              sum_by-cons of_element element []
              ∙ ap (λ b. cond (b && test element.stamp) (number element.volume) 0 + 0) (le-ltb moment (e.timestamp + term.range.seconds * second) (omega (arith, before, from_start)))
        ]

    added_where : (e : Entry) (b : Bool) → selects matchers e.labels ≡ b → of_added e ≡ cond b (of_visited e) 0
    added_where e true is = ap (λ b. sum_by of_element (option_to_list (cond b (line_element stages (record { labels = e.labels; text = e.line }) e.timestamp) None))) is
    added_where e false is = ap (λ b. sum_by of_element (option_to_list (cond b (line_element stages (record { labels = e.labels; text = e.line }) e.timestamp) None))) is

    same_entry : (e : Entry) → cond (is_asked matchers start greatest_moment e) (cond (not (hides e.labels e.timestamp e.line)) (of_visited e) 0) 0 ≡ cond (nat_le e.timestamp greatest_moment) (cond (not (covers e)) (of_added e) 0) 0
    same_entry e =
        one_entry (selects matchers e.labels) (nat_le start e.timestamp) (nat_le e.timestamp greatest_moment) (not (hides e.labels e.timestamp e.line)) (of_visited e) (of_added e)
        (λ is. added_where e true is) (λ is. added_where e false is) (λ is. not_needed e is)
        ∙ ap (λ b. cond (nat_le e.timestamp greatest_moment) (cond (not b) (of_added e) 0) 0) (sym (by_parts e))

    filter_visited : (p : LabelSet × Line → Bool) (es : List Entry) → filter p (map visited es) ≡ map visited (filter (λ e. p (visited e)) es)
    filter_visited p [] = refl
    filter_visited p (e ∷ es) = elim (p (visited e)) as (λ b. cond b (visited e ∷ filter p (map visited es)) (filter p (map visited es)) ≡ map visited (cond b (e ∷ filter (λ e. p (visited e)) es) (filter (λ e. p (visited e)) es))) [
      | true ↦ ap (λ rest. visited e ∷ rest) (filter_visited p es)
      | false ↦ filter_visited p es
    ]

    same_sum : (held order : List Entry) → IsPermutation (asked matchers start greatest_moment held) order
        → sum_by of_line (lines_of (elements_of stages (not_hidden hides (map visited order)))) ≡ sum_by of_line (lines_of (elements_for (code_of term) (uncovered covers (timely held))))
    same_sum held order moved =
        let shown = λ (e : Entry). not (hides e.labels e.timestamp e.line) in
        let asked_for = is_asked matchers start greatest_moment in
        let kept = timely held in
        sum_by-map of_line (λ (element : Element). (element.stamp, element.volume)) (elements_of stages (not_hidden hides (map visited order)))
        ∙ sum_by-flat of_element (line_elements stages) (not_hidden hides (map visited order))
        ∙ ap (sum_by (λ line. sum_by of_element (line_elements stages line))) (filter_visited (λ line. not (is_hidden hides line)) order)
        ∙ sum_by-map (λ line. sum_by of_element (line_elements stages line)) visited (filter shown order)
        ∙ sum_by-filter of_visited shown order
        ∙ sum_by-IsPermutation (λ e. cond (shown e) (of_visited e) 0) (asked matchers start greatest_moment held) order moved
        ∙ sum_by-filter (λ e. cond (shown e) (of_visited e) 0) asked_for held
        ∙ (λ i. sum_by (λ e. same_entry e i) held)
        ∙ sym (sum_by-filter (λ e. cond (not (covers e)) (of_added e) 0) (λ e. nat_le e.timestamp greatest_moment) held)
        ∙ sym (sum_by-filter of_added (λ e. not (covers e)) kept)
        ∙ sym (sum_by-flat of_element (entry_elements (code_of term)) (uncovered covers kept))
        ∙ sym (sum_by-map of_line (λ (element : Element). (element.stamp, element.volume)) (elements_for (code_of term) (uncovered covers kept)))

  -- a window of the lines that were asked for stands for all entries that are not covered
  pub stands_held : (held order : List Entry) → IsPermutation (asked matchers start greatest_moment held) order → (window : WindowView) → window.seconds ≡ term.range.seconds → window.moment ≡ moment
      → StandsFor window (elements_of stages (not_hidden hides (map visited order))) → StandsFor window (elements_for (code_of term) (uncovered covers (timely held)))
  stands_held held order moved window seconds at stands =
      let needed = λ (stamp : Stamp). is_needed window.seconds window.moment stamp in
      let own = lines_of (elements_of stages (not_hidden hides (map visited order))) in
      let others = lines_of (elements_for (code_of term) (uncovered covers (timely held))) in (
        short_entries term (uncovered covers (timely held)),
        λ test.
            stands.1 test
            ∙ volume_of-filter needed test own
            ∙ (λ i. volume_of (λ stamp. is_needed (seconds i) (at i) stamp && test stamp) own)
            ∙ (λ i. record { count = same_sum test (λ volume. volume.count) held order moved i; bytes = same_sum test (λ volume. volume.bytes) held order moved i })
            ∙ (λ i. volume_of (λ stamp. is_needed (sym seconds i) (sym at i) stamp && test stamp) others)
            ∙ sym (volume_of-filter needed test others),
      )

-- ALL TOGETHER

-- windows of the ranges of terms at a moment, which no line came into
abbrev pub empty_state : (most moment : ℕ) → List Term → Metered → State
empty_state most moment terms meter = (record { left = most; is_over = false; each = map (nothing_in moment most) terms }, meter)

module _ (hides : LabelSet → ℕ → List ℕ → Bool) (streams : StreamsView) (terms : List Term) (matchers : List Matcher) (moment start : ℕ) (from_start : AllByRecursion (IsReadFrom matchers moment start) terms) (meter : Metered) where
  abbrev most : ℕ
  most = streams.limits.entries

  abbrev filled_by : List (LabelSet × Line) → State
  filled_by lines = fold comes_in (empty_state most moment terms meter) (not_hidden hides lines)

  many : length (empty_state most moment terms meter).0.each ≡ length terms
  many = length-map terms (nothing_in moment most)

  -- over any store
  pub built_of_lines : (lines : List (List (LabelSet × Line))) → AllZip (AreOfRow matchers start greatest_moment) streams.rows lines → (filled_by (flat_map (λ of_row. of_row) lines)).0.is_over ≡ false
      → AreBuilt hides streams terms moment meter (filled_by (flat_map (λ of_row. of_row) lines)).1 (map (λ filling. filling.window) (filled_by (flat_map (λ of_row. of_row) lines)).0.each)
  built_of_lines lines each room =
      let shown = not_hidden hides (flat_map (λ of_row. of_row) lines) in
      let came = came_in (empty_state most moment terms meter) shown room in
      record {
        matchers = matchers;
        start = start;
        from_start = from_start;
        lines = lines;
        each = each;
        stand = subst (λ each. AllZip (IsBuiltOf most moment shown) terms (map (λ (filling : Filling). filling.window) each)) (sym came.each) (built_of most moment shown came.fit terms);
        counted = came.counted ∙ ap (λ n. fold (λ meter _. with_runs n meter) meter shown) many;
      }

  -- over an honest one there is room for all
  room_for : (state : State) (lines : List (LabelSet × Line)) → state.0.is_over ≡ false → AllByRecursion fits lines → length lines ≤ state.0.left → (fold comes_in state lines).0.is_over ≡ false
  room_for state [] room short few = room
  room_for state (line ∷ lines) room short few =
      ap (λ s. (fold comes_in s lines).0.is_over) (by_room state line false (λ i. ne_eqb state.0.left 0 (λ none. absurd (omega (arith, few, none))) i || le-ltb longest_line (length line.1.text) short.0 i))
      ∙ room_for (one_more state line) lines room short.1 (omega (arith, few))

  fit_visited : (es : List Entry) → AllByRecursion fits (not_hidden hides (map visited es))
  fit_visited [] = tt
  fit_visited (e ∷ es) = elim (is_hidden hides (visited e)) as (λ b. AllByRecursion fits (cond (not b) (visited e ∷ not_hidden hides (map visited es)) (not_hidden hides (map visited es)))) [
    | true ↦ fit_visited es
    | false ↦ (e.fits, fit_visited es)
  ]

  fewer : {X : Type 0} (p : X → Bool) (xs : List X) → length (filter p xs) ≤ length xs
  fewer p xs = omega (arith, length-filter p xs, count_by-le-length p xs)

  module _ (order : List Entry) (moved : IsPermutation (asked matchers start greatest_moment (keys streams.held)) order) (few : length (keys streams.held) ≤ most) where
    pub room_for_held : (filled_by (map visited order)).0.is_over ≡ false
    room_for_held = room_for (empty_state most moment terms meter) (not_hidden hides (map visited order)) refl (fit_visited order) (omega (
      arith,
      fewer (λ line. not (is_hidden hides line)) (map visited order),
      length-map order visited,
      length_permutation (asked matchers start greatest_moment (keys streams.held)) order moved,
      fewer (is_asked matchers start greatest_moment) (keys streams.held),
      few,
    ))

    module _ (covers : Entry → Bool) (by_parts : (e : Entry) → covers e ≡ hides e.labels e.timestamp e.line) where
      each_stands : (terms : List Term) (windows : List WindowView) → AllByRecursion (IsReadFrom matchers moment start) terms → AllZip (IsBuiltOf most moment (not_hidden hides (map visited order))) terms windows
          → AllZip (λ term window. StandsFor window (elements_for (code_of term) (uncovered covers (timely (keys streams.held))))) terms windows
      each_stands [] [] all built = tt
      each_stands [] (window ∷ windows) all built = absurd built
      each_stands (term ∷ terms) [] all built = absurd built
      each_stands (term ∷ terms) (window ∷ windows) all built = (
        stands_held hides covers by_parts term moment start all.0.1 (keys streams.held) order (subst (λ own. IsPermutation (asked own start greatest_moment (keys streams.held)) order) (sym all.0.0) moved) window built.0.range built.0.moment_is built.0.stands,
        each_stands terms windows all.1 built.1,
      )

      pub stand_for_held : AllZip (λ term window. StandsFor window (elements_for (code_of term) (uncovered covers (timely (keys streams.held))))) terms (map (λ filling. filling.window) (filled_by (map visited order)).0.each)
      stand_for_held =
          let shown = not_hidden hides (map visited order) in
          let came = came_in (empty_state most moment terms meter) shown room_for_held in
          each_stands terms (map (λ (filling : Filling). filling.window) (filled_by (map visited order)).0.each) from_start
          (subst (λ each. AllZip (IsBuiltOf most moment shown) terms (map (λ (filling : Filling). filling.window) each)) (sym came.each) (built_of most moment shown came.fit terms))

-- terms of one selector read what the matchers of each of them select
read_from : (terms : List (Bor Term)) (own asked_by : List Matcher) (moment start : ℕ) → AllByRecursion (λ (term : Bor Term). term.now.range.selector.matchers ≡ own) terms → asked_by ≡ own → AllByRecursion (λ (term : Bor Term). start ≤ first_needed term.now.range.seconds moment) terms
    → AllByRecursion (IsReadFrom asked_by moment start) (map (λ (term : Bor Term). term.now) terms)
read_from [] own asked_by moment start one is needed = tt
read_from (term ∷ terms) own asked_by moment start one is needed = ((one.0 ∙ sym is, needed.0), read_from terms own asked_by moment start one.1 is needed.1)

same_windows : (P : Term → WindowView → Type 0) (terms : List (Bor Term)) (windows : List WindowView) → AllZip P (map (λ (term : Bor Term). term.now) terms) windows → AllZip (λ (term : Bor Term) window. P term.now window) terms windows
same_windows P [] [] all = tt
same_windows P [] (window ∷ windows) all = absurd all
same_windows P (term ∷ terms) [] all = absurd all
same_windows P (term ∷ terms) (window ∷ windows) all = (all.0, same_windows P terms windows all.1)

-- what lets in lines that no received request covers
abbrev pub lets_in : Building → LabelSet × Line → Building
lets_in building line =
    cond (covered_line building.requests.now line.0 line.1.timestamp line.1.text) building
    (record { fillings = filled (record { labels = line.0; text = line.1.text }) line.1.timestamp building.fillings; meter = counted_in (length line.1.text) building.fillings building.meter; requests = building.requests })

module _ (requests : Bor RequestsView) (streams : StreamsView) (own : List (Bor Term)) (of_one : (matchers : List Matcher) × AllByRecursion (λ (term : Bor Term). term.now.range.selector.matchers ≡ matchers) own) (some : 1 ≤ length own) (any : Bor Term) where
  abbrev building_of : State → Building
  building_of state = record { fillings = state.0; meter = state.1; requests = requests }

  abbrev pub asked_by : List Matcher
  asked_by = (get_or own 0 any).now.range.selector.matchers

  module _ (moment start : ℕ) (needed : AllByRecursion (λ (term : Bor Term). start ≤ first_needed term.now.range.seconds moment) own) (meter : Metered) (fillings : FillingsView) (is : fillings ≡ record { left = streams.limits.entries; is_over = false; each = map (λ (term : Bor Term). nothing_in moment streams.limits.entries term.now) own }) (after : Building) where
    abbrev terms : List Term
    terms = map (λ (term : Bor Term). term.now) own

    from : AllByRecursion (IsReadFrom asked_by moment start) terms
    from = read_from own of_one.0 asked_by moment start of_one.1 (All-from_recursion (λ (term : Bor Term). term.now.range.selector.matchers ≡ of_one.0) own of_one.1 0 any (omega (arith, some))) needed

    before : (fillings, meter) ≡ empty_state streams.limits.entries moment terms meter
    before = λ i. ((is ∙ (λ j. record { left = streams.limits.entries; is_over = false; each = sym (map-map (nothing_in moment streams.limits.entries) (λ (term : Bor Term). term.now) own) j })) i, meter)

    state_after : (lines : List (LabelSet × Line)) → after ≡ fold lets_in (building_of (fillings, meter)) lines → after ≡ building_of (fold comes_in (empty_state streams.limits.entries moment terms meter) (not_hidden (covered_line requests.now) lines))
    state_after lines same = same ∙ ap (λ state. fold lets_in (building_of state) lines) before ∙ lets_shown (covered_line requests.now) lets_in building_of (λ state line. refl) (empty_state streams.limits.entries moment terms meter) lines

    -- over any store, where no line came that may not
    pub built : AreVisited lets_in asked_by start greatest_moment streams.rows (building_of (fillings, meter)) after → after.fillings.is_over ≡ false
        → AreBuilt (covered_line requests.now) streams terms moment meter after.meter (map (λ (filling : Filling). filling.window) after.fillings.each)
    built given room =
        let came = state_after (flat_map (λ of_row. of_row) given.lines) given.visited in
        subst (λ (building : Building). AreBuilt (covered_line requests.now) streams terms moment meter building.meter (map (λ (filling : Filling). filling.window) building.fillings.each)) (sym came)
        (built_of_lines (covered_line requests.now) streams terms asked_by moment start from meter given.lines given.each (ap (λ (building : Building). building.fillings.is_over) (sym came) ∙ room))

    module _ (once : AreVisitedOnce asked_by start greatest_moment streams.held lets_in (building_of (fillings, meter)) after) (few : length (keys streams.held) ≤ streams.limits.entries) where
      came_once : after ≡ building_of (fold comes_in (empty_state streams.limits.entries moment terms meter) (not_hidden (covered_line requests.now) (map visited once.order)))
      came_once = state_after (map visited once.order) once.visited

      -- over an honest one none does
      pub not_over : after.fillings.is_over ≡ false
      not_over = ap (λ (building : Building). building.fillings.is_over) came_once ∙ room_for_held (covered_line requests.now) streams terms asked_by moment start from meter once.order once.once few

      -- and each window stands for the entries
      pub stand : AllZip (λ (term : Bor Term) window. StandsFor window (elements_for (code_of term.now) (uncovered (covered requests.now) (timely (keys streams.held))))) own (map (λ (filling : Filling). filling.window) after.fillings.each)
      stand =
          subst (λ (building : Building). AllZip (λ (term : Bor Term) window. StandsFor window (elements_for (code_of term.now) (uncovered (covered requests.now) (timely (keys streams.held))))) own (map (λ (filling : Filling). filling.window) building.fillings.each)) (sym came_once)
          (same_windows (λ term window. StandsFor window (elements_for (code_of term) (uncovered (covered requests.now) (timely (keys streams.held))))) own _ (stand_for_held (covered_line requests.now) streams terms asked_by moment start from meter once.order once.once few (covered requests.now) (λ e. refl)))
