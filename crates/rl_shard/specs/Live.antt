-- Windows of ranges that a shard keeps, and when it answers by them.
use Rattle.std.specs.Prelude.{◌≡◌, ◌≤◌, ◌⊎◌, ◌==◌, ℕ, true, List, [], ◌∷◌, ◌++◌, length, Option, Some, Result, Ok, Err, slice_get, if◌then◌else◌}
use Rattle.std.specs.List.{sum_by}
use Rattle.std.specs.Option.{unwrap_or}
use Rattle.std.specs.FinMap.{keys}
use Rattle.rl_labels.specs.declared.entry.Entry.{Entry}
use Rattle.rl_query.specs.declared.query.Term.{Term}
use Rattle.rl_aggregate.specs.declared.partial.Partial.{Partial}
use Rattle.rl_deletes.specs.Deletes.{RequestsView, covered}
use Rattle.rl_parts.specs.Rewriting.{uncovered}
use Rattle.rl_windows.specs.Built.{timely}
use Rattle.rl_windows.specs.Ranges.{elements_for}
use Rattle.rl_windows.specs.Windows.{in_range, StandsFor}
use Rattle.rl_windows.specs.declared.element.Element.{Element}
use Rattle.rl_windows.specs.declared.range.RangeCode.{RangeCode}
use Rattle.rl_slots.specs.Slots.{collected_in, key_of, term_key, visits_for, AreExact, AreOfMost, IsLiveIn, SlotView}
use Rattle.rl_slots.specs.declared.range_window.RangeWindow.{RangeWindow}
use Rattle.rl_streams.specs.StreamsState.{StreamsView}
use Rattle.rl_shard.specs.Collecting.{IsRead}
use Rattle.rl_records.specs.declared.step.ShardStep.{ShardStep}
use Rattle.rl_records.specs.declared.step.ShardStep.TheVariants as steps
use Rattle.rl_records.specs.declared.step.ShardReply.{ShardReply}
use Rattle.rl_shard.specs.declared.step.ShardFault.{ShardFault}

-- the entries that windows stand for: those that are shown, at the moments that there are
abbrev pub windowed : StreamsView → RequestsView → List Entry
windowed streams requests = uncovered (covered requests) (timely (keys streams.held))

-- what holds of the windows of slots: each is for as many lines as may be held, and over an honest store it stands for what is shown
pub record AreRight (streams : StreamsView) (requests : RequestsView) (slots : List SlotView) : Type 0 where
  pub most : AreOfMost streams.limits.entries slots
  pub exact : streams.seen.honest ≡ true → AreExact slots (windowed streams requests)

-- a window at a moment, built of what streams hold: it stands for elements, and what a term of its range has of these was read
pub record IsBuiltFrom (streams : StreamsView) (requests : RequestsView) (t : ℕ) (it : RangeWindow) : Type 0 where
  pub moment : it.window.moment ≡ t
  pub most : it.window.most ≡ streams.limits.entries
  pub elements : List Element
  pub stands : StandsFor it.window elements
  pub reads : (term : Term) (found : Partial) → term_key term ≡ key_of it → found ≡ in_range term.range.seconds t elements → IsRead streams.rows requests term.range t found
  pub exact : streams.seen.honest ≡ true → StandsFor it.window (elements_for it.code (windowed streams requests))

-- the range at an index is that of the term
abbrev pub IsRangeAt : List (RangeCode × ℕ) → Term → (index : ℕ) → Type 0
IsRangeAt ranges term index = slice_get ranges index ≡ Some (term_key term)

-- some window has as many lines as it may have, so that as many entries as that are among those that windows stand for
abbrev pub AreCrowded : List SlotView → Type 0
AreCrowded slots = (most : ℕ) (entries : List Entry) → AreOfMost most slots → AreExact slots entries → most ≤ length entries

-- an entry went into the windows that need it, unless a received request covers it; or one of these has no room
abbrev pub IsLetIn : RequestsView → Entry → List SlotView → List SlotView → Type 0
IsLetIn requests entry slots after =
    AreCrowded slots ⊎ ((entries : List Entry) → AreExact slots entries → AreExact after ((if covered requests entry then [] else entry ∷ []) ++ entries))

-- a step that keeps what the slot of a number answers from a moment on: each but a Collect of the slot that is answered, and one that is
-- refused from its own moment on
abbrev pub Keeps : ShardStep → Result ShardReply ShardFault → (number u : ℕ) → Type 0
Keeps (steps.Collect slot terms t) (Ok _) number u = number ≡ slot → ⊥
Keeps (steps.Collect slot terms t) (Err _) number u = number ≡ slot → t ≤ u
Keeps step result number u = Unit {0}

-- the moment of the last Collect of a slot that was answered, after a step
abbrev pub collected_after : ShardStep → Result ShardReply ShardFault → (number : ℕ) → List SlotView → Option ℕ
collected_after (steps.Collect slot terms t) (Ok _) number slots = if slot == number then Some t else collected_in number slots
collected_after step result number slots = collected_in number slots

-- the timestamps of visible entries that come due or leave, for each term of a Collect, since its slot was answered last
abbrev pub visits_due : List Entry → ShardStep → List SlotView → ℕ
visits_due entries (steps.Collect slot terms t) slots = sum_by (visits_for entries (unwrap_or (collected_in slot slots) 0) t) terms
visits_due entries step slots = 0

-- what is answered by windows after a Collect was answered: its own terms, from its moment on
abbrev pub IsAnsweredLive : ShardStep → List SlotView → Type 0
IsAnsweredLive (steps.Collect slot terms t) slots = (u : ℕ) → t ≤ u → IsLiveIn slot terms u slots
IsAnsweredLive step slots = Unit {0}

-- a Collect that windows answer
abbrev pub IsOfWindows : ShardStep → List SlotView → Type 0
IsOfWindows (steps.Collect slot terms t) slots = IsLiveIn slot terms t slots
IsOfWindows step slots = ⊥

-- a step that pushes
abbrev pub IsPush : ShardStep → Type 0
IsPush (steps.Push entry) = Unit {0}
IsPush step = ⊥
