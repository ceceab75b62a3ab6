-- Slots: the windows of the terms that a group asks about, and what lines change in them.
use Rattle.std.specs.Prelude.{◌≡◌, ◌⊎◌, ℕ, suc, ◌+◌, ◌*◌, ◌≤◌, nat_eq, nat_lt, List, [], ◌∷◌, ◌++◌, map, Option, None, Some, IfSome, option_to_list, slice_get, slice_set, length, ◌==◌, if◌then◌else◌, refl}
use Rattle.std.specs.Coded.{Coded, code_by, coded×, coded_list, coded_ℕ}
use Rattle.std.specs.FinMap.{empty}
use Rattle.std.specs.List.{filter, flat_map, position, AllByRecursion, AllZip, sum_by}
use Rattle.rl_labels.specs.EntryParts.{longest_line}
use Rattle.rl_labels.specs.LabelSet.{LabelSet}
use Rattle.rl_labels.specs.Selects.{selects}
use Rattle.rl_labels.specs.declared.entry.Entry.{Entry}
use Rattle.rl_query.specs.contracts.query.Term as term
use Rattle.rl_query.specs.declared.query.Term.{Term}
use Rattle.rl_pipeline.specs.Lines.{StreamLine}
use Rattle.rl_pipeline.specs.Metering.{Metered}
use Rattle.rl_aggregate.specs.InRange.{second}
use Rattle.rl_aggregate.specs.Partials.{partial}
use Rattle.rl_aggregate.specs.declared.partial.Partial.{Partial}
use Rattle.rl_aggregate.specs.declared.volume.Volume.{Volume}
use Rattle.rl_windows.specs.Ranges.{code_of, element_for, elements_for}
use Rattle.rl_windows.specs.Windows.{count_of, first_needed, in_range, is_between, lines_of, moments, visits, window_code, StandsFor, WindowView}
use Rattle.rl_windows.specs.contracts.range.RangeCode as range
use Rattle.rl_windows.specs.declared.element.Element.{Element}
use Rattle.rl_windows.specs.declared.range.RangeCode.{RangeCode}
use Rattle.rl_slots.specs.declared.change.Change.{Change}
use Rattle.rl_slots.specs.declared.window_index.WindowIndex.{WindowIndex}
use Rattle.rl_slots.specs.declared.range_window.RangeWindow.{RangeWindow}

-- the number of a group's slot, the terms that it asked about last, the moment that was answered last, one that no window is past, and
-- the windows
pub record SlotView : Type 0 where
  pub number : ℕ
  pub terms : List Term
  pub collected : ℕ
  pub reached : ℕ
  pub windows : List RangeWindow

-- as its parts, for a store
abbrev range_window_code : Coded RangeWindow
range_window_code = code_by (RangeCode × WindowView) (coded× range.the_row.coded window_code) (λ it. (it.code, it.window)) (λ p. record { code = p.0; window = p.1 }) (λ _. refl)

abbrev pub slot_code : Coded SlotView
slot_code =
    code_by (ℕ × (List Term × (ℕ × (ℕ × List RangeWindow)))) (coded× coded_ℕ (coded× (coded_list term.the_row.coded) (coded× coded_ℕ (coded× coded_ℕ (coded_list range_window_code)))))
    (λ slot. (slot.number, (slot.terms, (slot.collected, (slot.reached, slot.windows)))))
    (λ p. record { number = p.0; terms = p.1.0; collected = p.1.1.0; reached = p.1.1.1.0; windows = p.1.1.1.1 })
    (λ _. refl)

-- the range that a window is of, and that of a term
abbrev pub key_of : RangeWindow → RangeCode × ℕ
key_of it = (it.code, it.window.seconds)

abbrev pub term_key : Term → RangeCode × ℕ
term_key term = (code_of term, term.range.seconds)

-- the window at an index is of the term's range
abbrev pub IsWindowOf : List RangeWindow → Term → (index : ℕ) → Type 0
IsWindowOf windows term index = slice_get (map key_of windows) index ≡ Some (term_key term)

-- the items are some of others, in their order
abbrev pub ArePicked : {X : Type 0} → List X → List X → Type 0
ArePicked [] others = Unit {0}
ArePicked (item ∷ items) [] = ⊥
ArePicked (item ∷ items) (other ∷ others) = ((item ≡ other) × ArePicked items others) ⊎ ArePicked (item ∷ items) others

-- what holds of a slot's parts: each term has its window, each window is of some term, and none is before the moment that was answered
-- last
pub record IsSlot (terms : List Term) (collected reached : ℕ) (windows : List RangeWindow) (indices : List ℕ) : Type 0 where
  pub of_terms : AllZip (IsWindowOf windows) terms indices
  pub picked : ArePicked (map key_of windows) (map term_key terms)
  pub since : AllByRecursion (λ it. collected ≤ it.window.moment) windows
  pub moments : AllByRecursion (λ it. it.window.moment ≤ reached) windows

-- all of a slot but the lines of its windows
abbrev pub range_of : RangeWindow → RangeWindow
range_of it = record { code = it.code; window = record { seconds = it.window.seconds; moment = it.window.moment; buckets = empty; most = it.window.most } }

abbrev pub outline : SlotView → SlotView
outline slot = record slot { windows = map range_of slot.windows }

-- LINES

-- the line of an entry
abbrev pub line_of : Entry → StreamLine
line_of entry = record { labels = entry.labels; text = entry.line }

-- what one line counts as
abbrev pub IsOfLine : Volume → Type 0
IsOfLine volume = (volume.count ≡ 1) × (volume.bytes ≤ longest_line)

-- what a line adds to a window: nothing where the window does not need it or the range does not have it
abbrev pub wanted : StreamLine → (timestamp : ℕ) → RangeWindow → Option Element
wanted line timestamp it = if nat_lt it.window.moment (timestamp + it.window.seconds * second) then element_for it.code line timestamp else None

-- what it changes in windows of a slot, the first of which has an index, and in all windows of slots
abbrev pub changes_in : StreamLine → (timestamp : ℕ) → (slot first : ℕ) → List RangeWindow → List Change
changes_in line timestamp slot first [] = []
changes_in line timestamp slot first (it ∷ windows) =
    map (λ element. record { slot = slot; window = first; element = element }) (option_to_list (wanted line timestamp it)) ++ changes_in line timestamp slot (suc first) windows

abbrev pub changes_from : StreamLine → (timestamp : ℕ) → (first : ℕ) → List SlotView → List Change
changes_from line timestamp first [] = []
changes_from line timestamp first (slot ∷ slots) = changes_in line timestamp first 0 slot.windows ++ changes_from line timestamp (suc first) slots

abbrev pub changes_of : StreamLine → (timestamp : ℕ) → List SlotView → List Change
changes_of line timestamp slots = changes_from line timestamp 0 slots

-- what the lines of entries change, one after the other
abbrev pub changes_of_all : List Entry → List SlotView → List Change
changes_of_all entries slots = flat_map (λ entry. changes_of (line_of entry) entry.timestamp slots) entries

-- a window has as many lines as it may have
abbrev pub IsFull : RangeWindow → Type 0
IsFull it = it.window.most ≤ count_of it.window.buckets

-- no window needs a line before a timestamp
abbrev pub IsNeededFrom : (first : ℕ) → RangeWindow → Type 0
IsNeededFrom first it = first ≤ first_needed it.window.seconds it.window.moment

abbrev pub AreNeededFrom : (first : ℕ) → List SlotView → Type 0
AreNeededFrom first slots = AllByRecursion (λ slot. AllByRecursion (IsNeededFrom first) slot.windows) slots

-- each window is for as many lines
abbrev pub AreOfMost : (most : ℕ) → List SlotView → Type 0
AreOfMost most slots = AllByRecursion (λ slot. AllByRecursion (λ it. it.window.most ≡ most) slot.windows) slots

-- how many terms slots answer
abbrev pub term_count : List SlotView → ℕ
term_count slots = sum_by (λ slot. length slot.terms) slots

-- STREAMS

-- where the windows are that select a stream: of a slot, whose first one has an index, and of all slots
abbrev pub selecting_in : LabelSet → (slot first : ℕ) → List RangeWindow → List WindowIndex
selecting_in labels slot first [] = []
selecting_in labels slot first (it ∷ windows) =
    (if selects it.code.selector labels then record { slot = slot; window = first } ∷ [] else []) ++ selecting_in labels slot (suc first) windows

abbrev pub selecting_from : LabelSet → (first : ℕ) → List SlotView → List WindowIndex
selecting_from labels first [] = []
selecting_from labels first (slot ∷ slots) = selecting_in labels first 0 slot.windows ++ selecting_from labels (suc first) slots

-- the indices are those of the windows that select a stream, no more than there are terms
abbrev pub AreSelecting : List SlotView → LabelSet → List WindowIndex → Type 0
AreSelecting slots labels indices = (indices ≡ selecting_from labels 0 slots) × (length indices ≤ term_count slots)

-- so for each stream of a table
abbrev pub IsTable : List SlotView → List (LabelSet × List WindowIndex) → Type 0
IsTable slots rows = AllByRecursion (λ row. AreSelecting slots row.0 row.1) rows

-- what a line changes in the window at an index, if there is one
abbrev pub changes_there : StreamLine → (timestamp : ℕ) → WindowIndex → Option RangeWindow → List Change
changes_there line timestamp index None = []
changes_there line timestamp index (Some it) = map (λ element. record { slot = index.slot; window = index.window; element = element }) (option_to_list (wanted line timestamp it))

-- the window of a slot at an index, if there is one, and the window that is at a window index
abbrev pub window_in : Option SlotView → (index : ℕ) → Option RangeWindow
window_in None index = None
window_in (Some slot) index = slice_get slot.windows index

abbrev pub window_at : List SlotView → WindowIndex → Option RangeWindow
window_at slots index = window_in (slice_get slots index.slot) index.window

-- and what a line changes in the windows at indices, one after the other
abbrev pub changes_at : StreamLine → (timestamp : ℕ) → List SlotView → List WindowIndex → List Change
changes_at line timestamp slots indices = flat_map (λ index. changes_there line timestamp index (window_at slots index)) indices

-- STANDING

-- elements that windows stand for, by their indices and the codes of their ranges
abbrev pub ContentsIn : Type 0
ContentsIn = (window : ℕ) → RangeCode → List Element

abbrev pub Contents : Type 0
Contents = (slot : ℕ) → ContentsIn

abbrev pub StandIn : List RangeWindow → ContentsIn → Type 0
StandIn windows contents = (index : ℕ) → IfSome (slice_get windows index) (λ it. StandsFor it.window (contents index it.code))

abbrev pub AllStand : List SlotView → Contents → Type 0
AllStand slots contents = (index : ℕ) → IfSome (slice_get slots index) (λ slot. StandIn slot.windows (contents index))

-- with an element more at one window, and with those of changes
abbrev pub with_element_at : (window : ℕ) → Element → ContentsIn → ContentsIn
with_element_at window element contents index code = if nat_eq index window then element ∷ contents index code else contents index code

abbrev pub with_change : Change → Contents → Contents
with_change change contents index = if nat_eq index change.slot then with_element_at change.window change.element (contents index) else contents index

abbrev pub with_changes : List Change → Contents → Contents
with_changes [] contents = contents
with_changes (change ∷ changes) contents = with_changes changes (with_change change contents)

-- each window stands for what the lines of entries add to it
abbrev pub AreExact : List SlotView → List Entry → Type 0
AreExact slots entries = AllStand slots (λ _ _ code. elements_for code entries)

abbrev pub AreExactIn : List RangeWindow → List Entry → Type 0
AreExactIn windows entries = StandIn windows (λ _ code. elements_for code entries)

-- ASKING

-- at most so many visits were counted, and nothing else
abbrev pub HasVisits : ℕ → Metered → Metered → Type 0
HasVisits more before after = (after.runs ≡ before.runs) × (after.visits ≤ before.visits + more)

-- the timestamps that come due or leave where windows move on to a moment
abbrev pub visits_of : List RangeWindow → (t : ℕ) → ℕ
visits_of windows t = sum_by (λ it. visits it.window t) windows

-- the timestamps of a range's lines that came due after one moment and by a later one, and of those that left it between them
abbrev pub visits_by : List Entry → (since t : ℕ) → RangeCode × ℕ → ℕ
visits_by entries since t key =
    let lines = lines_of (elements_for key.0 entries) in
    moments (filter (λ line. is_between (since + 1) (t + 1) line.0) lines) + moments (filter (λ line. is_between (first_needed key.1 since) (first_needed key.1 t) line.0) lines)

abbrev pub visits_for : List Entry → (since t : ℕ) → Term → ℕ
visits_for entries since t term = visits_by entries since t (term_key term)

-- what the range of the window at an index has of entries at a moment, for whichever term it is of
abbrev pub IsPartialAt : List RangeWindow → List Entry → (t index : ℕ) → Partial → Type 0
IsPartialAt windows entries t index found = (term : Term) → IsWindowOf windows term index → found ≡ partial entries term t

-- and so of the elements that the windows stand for
abbrev pub IsSumAt : List RangeWindow → (t : ℕ) → ContentsIn → (index : ℕ) → Partial → Type 0
IsSumAt windows t contents index found = (term : Term) → IsWindowOf windows term index → found ≡ in_range term.range.seconds t (contents index (code_of term))

-- what the windows of terms have at a moment of the elements that they stand for, one for each term
abbrev pub AreSums : List RangeWindow → (t : ℕ) → ContentsIn → List Term → List Partial → Type 0
AreSums windows t contents terms partials = AllZip (λ term found. (index : ℕ) × IsWindowOf windows term index × (found ≡ in_range term.range.seconds t (contents index (code_of term)))) terms partials

-- the slot answers terms at a moment
abbrev pub IsLive : List Term → (t : ℕ) → SlotView → Type 0
IsLive terms t slot = (slot.terms ≡ terms) × (slot.reached ≤ t)

-- so the slot of a number among others
pub record IsLiveIn (number : ℕ) (terms : List Term) (t : ℕ) (slots : List SlotView) : Type 0 where
  pub index : ℕ
  pub at : position (λ slot. slot.number == number) slots ≡ Some index
  pub slot : SlotView
  pub there : slice_get slots index ≡ Some slot
  pub live : IsLive terms t slot

-- one at an index, or beside the others
abbrev pub put_at : Option ℕ → SlotView → List SlotView → List SlotView
put_at None slot slots = slots ++ slot ∷ []
put_at (Some index) slot slots = slice_set slots index slot

-- slots with one in the stead of that of its number, or beside them
abbrev pub with_slot : SlotView → List SlotView → List SlotView
with_slot slot slots = put_at (position (λ own. own.number == slot.number) slots) slot slots

-- the moment at which the slot of a number was answered last
abbrev pub collected_in : (number : ℕ) → List SlotView → Option ℕ
collected_in number [] = None
collected_in number (slot ∷ slots) = if slot.number == number then Some slot.collected else collected_in number slots

-- of slots the one at an index answers its terms from a moment on, and the others are as they were
abbrev pub IsMovedOn : (index t : ℕ) → List SlotView → List SlotView → Type 0
IsMovedOn index t slots others = (slot : SlotView) × (others ≡ slice_set slots index slot) × IfSome (slice_get slots index) (λ own. (slot.number ≡ own.number) × (slot.terms ≡ own.terms) × (slot.reached ≡ t))
