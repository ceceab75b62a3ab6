-- Entries that a step hides or shows, and what they change in windows.
use Rattle.std.specs.Prelude.{◌≡◌, ℕ, ◌+◌, ◌<◌, ◌≤◌, Bool, true, List, ◌++◌}
use Rattle.std.specs.FinMap.{keys}
use Rattle.std.specs.List.{AllByRecursion, filter, sum_by}
use Rattle.rl_labels.specs.EntryOrder.{EntrySet}
use Rattle.rl_labels.specs.LabelSet.{LabelSet}
use Rattle.rl_labels.specs.Selects.{selects}
use Rattle.rl_labels.specs.TimeRange.{TimeRangeView}
use Rattle.rl_labels.specs.declared.entry.Entry.{Entry}
use Rattle.rl_labels.specs.declared.matcher.Matcher.{Matcher}
use Rattle.rl_chunks.specs.declared.line.Line.{Line}
use Rattle.rl_windows.specs.Built.{timely}
use Rattle.rl_slots.specs.Slots.{changes_of, changes_of_all, AreNeededFrom, SlotView}
use Rattle.rl_slots.specs.declared.change.Change.{Change}

-- changes with those of a line more
abbrev pub with_line : List SlotView → List Change → LabelSet × Line → List Change
with_line slots changes line = changes ++ changes_of (record { labels = line.0; text = line.1.text }) line.1.timestamp slots

-- the entry is of a stream that is selected, and in the range of time
abbrev pub IsWithin : List Matcher → TimeRangeView → Entry → Type 0
IsWithin selector range entry = (selects selector entry.labels ≡ true) × (range.from ≤ entry.timestamp) × (entry.timestamp ≤ range.to)

-- the changes are what the held entries that turn change in windows: those of some of them, while no window needs the others
pub record AreTurned (turns : Entry → Bool) (held : EntrySet) (slots : List SlotView) (changes : List Change) : Type 0 where
  pub entries : List Entry
  pub others : List Entry
  pub sums : (number : Entry → ℕ) → sum_by number entries + sum_by number others ≡ sum_by number (filter turns (timely (keys held)))
  pub first : ℕ
  pub needed : AreNeededFrom first slots
  pub before : AllByRecursion (λ entry. entry.timestamp < first) others
  pub listed : changes ≡ changes_of_all entries slots
