-- Windows that are built of what streams hold.
use Rattle.std.specs.Prelude.{◌≡◌, ℕ, ◌≤◌, nat_le, Bool, not, List, length, option_to_list}
use Rattle.std.specs.List.{AllByRecursion, AllZip, filter, flat_map, fold}
use Rattle.rl_labels.specs.LabelSet.{LabelSet}
use Rattle.rl_labels.specs.Quantity.{greatest_moment}
use Rattle.rl_labels.specs.declared.entry.Entry.{Entry}
use Rattle.rl_labels.specs.declared.matcher.Matcher.{Matcher}
use Rattle.rl_chunks.specs.declared.line.Line.{Line}
use Rattle.rl_pipeline.specs.Metering.{Metered}
use Rattle.rl_query.specs.declared.query.Term.{Term}
use Rattle.rl_query.specs.declared.stages.Stage.{Stage}
use Rattle.rl_streams.specs.Asking.{AreOfRow}
use Rattle.rl_streams.specs.StreamsState.{StreamsView}
use Rattle.rl_windows.specs.Filling.{with_runs}
use Rattle.rl_windows.specs.Ranges.{line_element}
use Rattle.rl_windows.specs.Windows.{first_needed, StandsFor, WindowView}
use Rattle.rl_windows.specs.declared.element.Element.{Element}

-- entries at moments that there are, as all are that a program has
abbrev pub timely : List Entry → List Entry
timely entries = filter (λ entry. nat_le entry.timestamp greatest_moment) entries

-- the lines of streams that nothing hides
abbrev pub not_hidden : (LabelSet → ℕ → List ℕ → Bool) → List (LabelSet × Line) → List (LabelSet × Line)
not_hidden hides lines = filter (λ line. not (hides line.0 line.1.timestamp line.1.text)) lines

-- what one adds to windows of a range whose selector selects its stream, and what all of them add
abbrev pub line_elements : List Stage → LabelSet × Line → List Element
line_elements stages line = option_to_list (line_element stages (record { labels = line.0; text = line.1.text }) line.1.timestamp)

abbrev pub elements_of : List Stage → List (LabelSet × Line) → List Element
elements_of stages lines = flat_map (line_elements stages) lines

-- a window of the term's range at the moment, which stands for the lines
pub record IsBuiltOf (most moment : ℕ) (lines : List (LabelSet × Line)) (term : Term) (window : WindowView) : Type 0 where
  pub range : window.seconds ≡ term.range.seconds
  pub moment_is : window.moment ≡ moment
  pub room : window.most ≡ most
  pub stands : StandsFor window (elements_of term.range.stages lines)

-- the term reads the streams that the matchers select, and at the moment and later ones no line before the start
abbrev pub IsReadFrom : List Matcher → (moment start : ℕ) → Term → Type 0
IsReadFrom matchers moment start term = (term.range.selector.matchers ≡ matchers) × (start ≤ first_needed term.range.seconds moment)

-- windows of terms over any store: each stands for the lines of the selected streams from a start on that nothing hides. Those of a
-- part that the store has are those of a chunk that bytes with its digest are
pub record AreBuilt (hides : LabelSet → ℕ → List ℕ → Bool) (streams : StreamsView) (terms : List Term) (moment : ℕ) (before after : Metered) (windows : List WindowView) : Type 0 where
  pub matchers : List Matcher
  pub start : ℕ
  pub from_start : AllByRecursion (IsReadFrom matchers moment start) terms
  pub lines : List (List (LabelSet × Line))
  pub each : AllZip (AreOfRow matchers start greatest_moment) streams.rows lines
  pub stand : AllZip (IsBuiltOf streams.limits.entries moment (not_hidden hides (flat_map (λ of_row. of_row) lines))) terms windows
  pub counted : after ≡ fold (λ meter _. with_runs (length terms) meter) before (not_hidden hides (flat_map (λ of_row. of_row) lines))
