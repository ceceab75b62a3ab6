-- Lines counted one by one after the stages of several pipelines, up to a limit.
use Rattle.std.specs.Prelude.{◌≤◌, ◌-◌, ◌==◌, ◌||◌, nat_lt, ℕ, Bool, true, List, map, length, if◌then◌else◌, refl}
use Rattle.std.specs.Coded.{Coded, code_by, coded×, coded_bool, coded_list, coded_ℕ}
use Rattle.std.specs.List.{AllByRecursion}
use Rattle.rl_labels.specs.EntryParts.{longest_line}
use Rattle.rl_labels.specs.LabelSet.{LabelSet}
use Rattle.rl_labels.specs.declared.entry.Entry.{Entry}
use Rattle.rl_aggregate.specs.Limited.{IsWithin}
use Rattle.rl_aggregate.specs.Partials.{most_entries}
use Rattle.rl_aggregate.specs.Accumulators.{AccumulatorView, accumulator_code, with_line}

-- how many lines may be counted, how many still may, whether one came that may not, and what each pipeline has counted
pub record CounterView : Type 0 where
  pub most : ℕ
  pub left : ℕ
  pub is_over : Bool
  pub accumulators : List AccumulatorView

-- as its parts, for a store
abbrev pub counter_code : Coded CounterView
counter_code =
    code_by (ℕ × (ℕ × (Bool × List AccumulatorView))) (coded× coded_ℕ (coded× coded_ℕ (coded× coded_bool (coded_list accumulator_code))))
    (λ counter. (counter.most, (counter.left, (counter.is_over, counter.accumulators))))
    (λ p. record { most = p.0; left = p.1.0; is_over = p.1.1.0; accumulators = p.1.1.1 })
    (λ _. refl)

-- a line that no entry has, or one more than may come, is not counted, and it is noted that one came
abbrev pub counted_line : LabelSet → List ℕ → CounterView → CounterView
counted_line labels text counter =
    if counter.left == 0 || nat_lt longest_line (length text) then record { most = counter.most; left = counter.left; is_over = true; accumulators = counter.accumulators }
    else record { most = counter.most; left = counter.left - 1; is_over = counter.is_over; accumulators = map (with_line labels text) counter.accumulators }

-- a counter of the line of an entry more
abbrev pub counted_entry : CounterView → Entry → CounterView
counted_entry counter entry = counted_line entry.labels entry.line counter

-- an accumulator of it
abbrev pub with_entry : AccumulatorView → Entry → AccumulatorView
with_entry accumulator entry = with_line entry.labels entry.line accumulator

-- what may be counted is what 64 bits can hold, and what was counted is within it
pub record IsCounter (most left : ℕ) (accumulators : List AccumulatorView) : Type 0 where
  pub few : most ≤ most_entries
  pub fewer : left ≤ most
  pub within : AllByRecursion (λ accumulator. IsWithin (most - left) accumulator.found) accumulators
