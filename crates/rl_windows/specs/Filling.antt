-- Windows of several ranges that the lines of streams come into.
use Rattle.std.specs.Prelude.{ℕ, zero, suc, ◌+◌, ◌-◌, ◌≤◌, ◌==◌, ◌||◌, nat_lt, Bool, true, List, map, length, if◌then◌else◌, refl}
use Rattle.std.specs.Coded.{Coded, code_by, coded×, coded_bool, coded_list, coded_ℕ}
use Rattle.std.specs.FinMap.{empty}
use Rattle.std.specs.List.{AllByRecursion}
use Rattle.std.specs.Option.{option_map, unwrap_or}
use Rattle.rl_labels.specs.EntryParts.{longest_line}
use Rattle.rl_pipeline.specs.Lines.{StreamLine}
use Rattle.rl_pipeline.specs.Metering.{Metered, with_run}
use Rattle.rl_query.specs.contracts.stages.Stage as stage
use Rattle.rl_query.specs.declared.query.Term.{Term}
use Rattle.rl_query.specs.declared.stages.Stage.{Stage}
use Rattle.rl_windows.specs.Ranges.{line_element}
use Rattle.rl_windows.specs.Windows.{count_of, window_code, with_element, WindowView}
use Rattle.rl_windows.specs.declared.filling.Filling.{Filling}

-- a term's range and its window at a moment, without a line
abbrev pub nothing_in : (moment most : ℕ) → Term → Filling
nothing_in moment most term = record { running = term.range.stages; window = record { seconds = term.range.seconds; moment = moment; buckets = empty; most = most } }

-- with a line more, as far as it stays and is needed
abbrev pub with_line : StreamLine → (timestamp : ℕ) → Filling → Filling
with_line line timestamp filling = record { running = filling.running; window = unwrap_or (option_map (λ element. with_element element filling.window) (line_element filling.running line timestamp)) filling.window }

-- how many lines may still come, whether one came that may not, and the windows
pub record FillingsView : Type 0 where
  pub left : ℕ
  pub is_over : Bool
  pub each : List Filling

-- as their parts, for a store
abbrev filling_code : Coded Filling
filling_code = code_by (List Stage × WindowView) (coded× (coded_list stage.the_row.coded) window_code) (λ f. (f.running, f.window)) (λ p. record { running = p.0; window = p.1 }) (λ _. refl)

abbrev pub fillings_code : Coded FillingsView
fillings_code =
    code_by (ℕ × (Bool × List Filling)) (coded× coded_ℕ (coded× coded_bool (coded_list filling_code)))
    (λ fillings. (fillings.left, (fillings.is_over, fillings.each)))
    (λ p. record { left = p.0; is_over = p.1.0; each = p.1.1 })
    (λ _. refl)

-- a line is longer than one of an entry, or is one more than may come
abbrev pub is_out : (bytes : ℕ) → FillingsView → Bool
is_out bytes fillings = fillings.left == 0 || nat_lt longest_line bytes

-- such a line is left out, and it is noted that one came; any other comes into each window
abbrev pub filled : StreamLine → (timestamp : ℕ) → FillingsView → FillingsView
filled line timestamp fillings =
    if is_out (length line.text) fillings then record { left = fillings.left; is_over = true; each = fillings.each }
    else record { left = fillings.left - 1; is_over = fillings.is_over; each = map (with_line line timestamp) fillings.each }

-- some runs more
abbrev pub with_runs : ℕ → Metered → Metered
with_runs zero meter = meter
with_runs (suc runs) meter = with_run (with_runs runs meter)

-- a line that comes in is one run for each window
abbrev pub counted_in : (bytes : ℕ) → FillingsView → Metered → Metered
counted_in bytes fillings meter = if is_out bytes fillings then meter else with_runs (length fillings.each) meter

-- each window has room for some lines
abbrev pub HaveRoom : ℕ → List Filling → Type 0
HaveRoom left each = AllByRecursion (λ filling. count_of filling.window.buckets + left ≤ filling.window.most) each
