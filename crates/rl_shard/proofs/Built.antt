-- Windows that were built of what streams hold: what they have in range was read.
use Rattle.std.proofs.Common.{◌≡◌, ◌≤◌, ℕ, Bool, true, false, ◌&&◌, Bor, List, [], ◌∷◌, map, refl, sym, ap, subst, ◌∙◌}
use Rattle.std.specs.List.{AllByRecursion, AllZip, filter, flat_map}
use Rattle.rl_labels.specs.LabelSet.{LabelSet}
use Rattle.rl_labels.specs.Quantity.{greatest_moment}
use Rattle.rl_labels.specs.declared.matcher.Matcher.{Matcher}
use Rattle.rl_chunks.specs.declared.line.Line.{Line}
use Rattle.rl_pipeline.specs.Metering.{Metered}
use Rattle.rl_query.specs.declared.query.Term.{Term}
use Rattle.rl_aggregate.specs.InRange.{in_window}
use Rattle.rl_aggregate.specs.declared.partial.Partial.{Partial}
use Rattle.rl_aggregate.specs.laws.Counting.{filter-both}
use Rattle.rl_deletes.specs.Deletes.{RequestsView, covered_line}
use Rattle.rl_streams.specs.Asking.{AreOfRow}
use Rattle.rl_streams.specs.StreamsState.{StreamsView}
use Rattle.rl_windows.specs.Built.{elements_of, AreBuilt, IsBuiltOf, IsReadFrom}
use Rattle.rl_windows.specs.Ranges.{code_of, elements_for}
use Rattle.rl_windows.specs.Windows.{in_range, StandsFor, WindowView}
use Rattle.rl_windows.specs.laws.Ranges.{in_range-elements_of}
use Rattle.rl_slots.specs.Slots.{key_of, term_key}
use Rattle.rl_slots.specs.declared.range_window.RangeWindow.{RangeWindow}
use Rattle.rl_shard.specs.Collecting.{counted, is_shown, IsRead}
use Rattle.rl_shard.specs.Live.{windowed, IsBuiltFrom}
use Rattle.rl_shard.proofs.Narrow.{filter_flat, is_between, narrow_rows, start_at, starts_at}
use Rattle.rl_shard.proofs.Taken.{lines_of}

-- either test may come first
swapped : (a b : Bool) → (a && b) ≡ (b && a)
swapped true true = refl
swapped true false = refl
swapped false true = refl
swapped false false = refl

-- the lines of all streams
abbrev all_lines : List (List (LabelSet × Line)) → List (LabelSet × Line)
all_lines lines = flat_map (λ of_row. of_row) lines

-- the lines that no received request covers
abbrev pub shown_lines : RequestsView → List (List (LabelSet × Line)) → List (LabelSet × Line)
shown_lines requests lines = filter (is_shown requests) (all_lines lines)

-- lists that are the same begin with the same item
head_is : {A : Type 0} (x y : A) (xs ys : List A) → x ∷ xs ≡ y ∷ ys → x ≡ y
head_is {A} x y xs ys is = ap (λ (all : List A). elim all as (λ _. A) [ [] ↦ x | z ∷ zs ↦ z ]) is

-- and go on with the same items
tail_is : {A : Type 0} (x y : A) (xs ys : List A) → x ∷ xs ≡ y ∷ ys → xs ≡ ys
tail_is {A} x y xs ys is = ap (λ (all : List A). elim all as (λ _. List A) [ [] ↦ xs | z ∷ zs ↦ zs ]) is

module _ (streams : StreamsView) (requests : RequestsView) (t : ℕ) (moments : t ≤ greatest_moment) where
  module _ (matchers : List Matcher) (start : ℕ) (lines : List (List (LabelSet × Line))) (each : AllZip (AreOfRow matchers start greatest_moment) streams.rows lines) where
    -- what a term of the range of one that was read has of the lines was read
    reads : (term : Term) → IsReadFrom matchers t start term → (other : Term) (found : Partial) → term_key other ≡ term_key term → found ≡ in_range other.range.seconds t (elements_of term.range.stages (shown_lines requests lines)) → IsRead streams.rows requests other.range t found
    reads term from other found key is =
        let seconds : other.range.seconds ≡ term.range.seconds = ap (λ k. k.1) key in
        let own_matchers : other.range.selector.matchers ≡ term.range.selector.matchers = ap (λ k. k.0.selector) key in
        let stages : other.range.stages ≡ term.range.stages = ap (λ k. k.0.pipeline) key in
        let low = start_at other.range.seconds t in
        let inside = λ (line : LabelSet × Line). in_window other.range.seconds t line.1.timestamp in
        let between = map (filter (is_between low t)) lines in
        let starts : start ≤ low = subst (λ (s : ℕ). start ≤ start_at s t) (sym seconds) from.1 in
        let narrow = narrow_rows start greatest_moment low t starts moments matchers streams.rows lines each in
        let own = subst (λ (ms : List Matcher). AllZip (AreOfRow ms low t) streams.rows between) (sym (own_matchers ∙ from.0)) narrow in
        let same : shown_lines requests between ≡ filter inside (shown_lines requests lines) =
        ap (filter (is_shown requests)) (sym (filter_flat (is_between low t) lines))
        ∙ filter-both (is_between low t) (is_shown requests) (all_lines lines)
        ∙ (λ i. filter (λ (line : LabelSet × Line). sym (starts_at other.range.seconds t line.1.timestamp) i && is_shown requests line) (all_lines lines))
        ∙ (λ i. filter (λ (line : LabelSet × Line). swapped (inside line) (is_shown requests line) i) (all_lines lines))
        ∙ sym (filter-both (is_shown requests) inside (all_lines lines)) in
        record {
          lines = shown_lines requests between;
          are = lines_of other.range streams.rows requests t between own;
          adds_up = is ∙ (λ i. in_range other.range.seconds t (elements_of (sym stages i) (shown_lines requests lines))) ∙ in_range-elements_of other.range t (shown_lines requests lines) ∙ ap (counted other.range.stages) (sym same);
        }

    -- a window of a term that was read, with its code, was built of what streams hold
    built_from : (term : Term) (it : RangeWindow) → IsReadFrom matchers t start term → IsBuiltOf streams.limits.entries t (shown_lines requests lines) term it.window → it.code ≡ code_of term
        → (streams.seen.honest ≡ true → StandsFor it.window (elements_for (code_of term) (windowed streams requests))) → IsBuiltFrom streams requests t it
    built_from term it from of_window code right = record {
      moment = of_window.moment_is;
      most = of_window.room;
      elements = elements_of term.range.stages (shown_lines requests lines);
      stands = of_window.stands;
      reads = λ other found same is. reads term from other found (same ∙ (λ i. (code i, of_window.range i))) is;
      exact = λ honest. subst (λ c. StandsFor it.window (elements_for c (windowed streams requests))) (sym code) (right honest);
    }

    -- and so all windows of terms that were read
    each_built : (terms : List (Bor Term)) (windows : List RangeWindow) → AllByRecursion (IsReadFrom matchers t start) (map (λ (term : Bor Term). term.now) terms)
        → AllZip (IsBuiltOf streams.limits.entries t (shown_lines requests lines)) (map (λ (term : Bor Term). term.now) terms) (map (λ (it : RangeWindow). it.window) windows)
        → map (λ (it : RangeWindow). it.code) windows ≡ map (λ (term : Bor Term). code_of term.now) terms
        → (streams.seen.honest ≡ true → AllZip (λ (term : Bor Term) window. StandsFor window (elements_for (code_of term.now) (windowed streams requests))) terms (map (λ (it : RangeWindow). it.window) windows))
        → AllByRecursion (IsBuiltFrom streams requests t) windows
    each_built [] [] from of_windows codes right = tt
    each_built [] (it ∷ windows) from of_windows codes right = absurd of_windows
    each_built (term ∷ terms) [] from of_windows codes right = absurd of_windows
    each_built (term ∷ terms) (it ∷ windows) from of_windows codes right =
        let code = head_is it.code (code_of term.now) (map (λ (it : RangeWindow). it.code) windows) (map (λ (term : Bor Term). code_of term.now) terms) codes in
        let others = tail_is it.code (code_of term.now) (map (λ (it : RangeWindow). it.code) windows) (map (λ (term : Bor Term). code_of term.now) terms) codes in
        (built_from term.now it from.0 of_windows.0 code (λ honest. (right honest).0), each_built terms windows from.1 of_windows.1 others (λ honest. (right honest).1))

  -- windows that were built of terms, with their codes
  pub all_built : (before after : Metered) (terms : List (Bor Term)) (windows : List RangeWindow) (built : List WindowView) → map (λ (it : RangeWindow). it.window) windows ≡ built → map (λ (it : RangeWindow). it.code) windows ≡ map (λ (term : Bor Term). code_of term.now) terms
      → AreBuilt (covered_line requests) streams (map (λ (term : Bor Term). term.now) terms) t before after built
      → (streams.seen.honest ≡ true → AllZip (λ (term : Bor Term) window. StandsFor window (elements_for (code_of term.now) (windowed streams requests))) terms built) → AllByRecursion (IsBuiltFrom streams requests t) windows
  all_built before after terms windows built same codes are right =
      let own = map (λ (term : Bor Term). term.now) terms in
      let of_windows = subst (AllZip (IsBuiltOf streams.limits.entries t (shown_lines requests are.lines)) own) (sym same) are.stand in
      each_built are.matchers are.start are.lines are.each terms windows are.from_start of_windows codes
      (λ honest. subst (AllZip (λ (term : Bor Term) window. StandsFor window (elements_for (code_of term.now) (windowed streams requests))) terms) (sym same) (right honest))

-- the keys of windows that were built of terms, with their codes, are those of the terms
pub keys_of : (most t : ℕ) (lines : List (LabelSet × Line)) (terms : List (Bor Term)) (windows : List RangeWindow) (built : List WindowView) → map (λ (it : RangeWindow). it.window) windows ≡ built → map (λ (it : RangeWindow). it.code) windows ≡ map (λ (term : Bor Term). code_of term.now) terms
    → AllZip (IsBuiltOf most t lines) (map (λ (term : Bor Term). term.now) terms) built → map key_of windows ≡ map (λ (term : Bor Term). term_key term.now) terms
keys_of most t lines terms windows built same codes stand = by terms windows codes (subst (AllZip (IsBuiltOf most t lines) (map (λ (term : Bor Term). term.now) terms)) (sym same) stand)
  where
    by : (terms : List (Bor Term)) (windows : List RangeWindow) → map (λ (it : RangeWindow). it.code) windows ≡ map (λ (term : Bor Term). code_of term.now) terms → AllZip (IsBuiltOf most t lines) (map (λ (term : Bor Term). term.now) terms) (map (λ (it : RangeWindow). it.window) windows)
        → map key_of windows ≡ map (λ (term : Bor Term). term_key term.now) terms
    by [] [] codes stand = refl
    by [] (it ∷ windows) codes stand = absurd stand
    by (term ∷ terms) [] codes stand = absurd stand
    by (term ∷ terms) (it ∷ windows) codes stand =
        let code = head_is it.code (code_of term.now) (map (λ (it : RangeWindow). it.code) windows) (map (λ (term : Bor Term). code_of term.now) terms) codes in
        let others = tail_is it.code (code_of term.now) (map (λ (it : RangeWindow). it.code) windows) (map (λ (term : Bor Term). code_of term.now) terms) codes in
        λ i. (code i, stand.0.range i) ∷ by terms windows others stand.1 i
