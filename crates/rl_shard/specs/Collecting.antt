-- What is read and added up for the terms of a Collect.
use Rattle.std.specs.Prelude.{◌≡◌, ◌⊎◌, ℕ, nat_le, Bool, not, ◌&&◌, List, [], ◌++◌, map, MatchBool}
use Rattle.std.specs.List.{AllZip, filter, flat_map}
use Rattle.std.specs.Option.{MatchOption}
use Rattle.std.specs.FinMap.{keys}
use Rattle.rl_labels.specs.LabelSet.{LabelSet}
use Rattle.rl_labels.specs.declared.entry.Entry.{Entry}
use Rattle.rl_labels.specs.Selects.{selects}
use Rattle.rl_labels.specs.declared.matcher.Matcher.{Matcher}
use Rattle.rl_chunks.specs.declared.chunk.Chunk.{Chunk}
use Rattle.rl_chunks.specs.declared.line.Line.{Line}
use Rattle.rl_query.specs.declared.query.LogRange.{LogRange}
use Rattle.rl_query.specs.declared.query.Term.{Term}
use Rattle.rl_query.specs.declared.stages.Stage.{Stage}
use Rattle.rl_aggregate.specs.InRange.{in_window, runs_of}
use Rattle.rl_aggregate.specs.Partials.{partial, partial_of}
use Rattle.rl_aggregate.specs.declared.partial.Partial.{Partial}
use Rattle.rl_deletes.specs.Deletes.{RequestsView, covered, covered_line}
use Rattle.rl_parts.specs.Reading.{IsApart, IsReadAs, visited}
use Rattle.rl_parts.specs.Rewriting.{uncovered}
use Rattle.rl_parts.specs.StreamParts.{PartView, StreamView}
use Rattle.rl_slots.specs.Slots.{IsLiveIn, SlotView}
use Rattle.rl_streams.specs.StreamRows.{Row, joined}
use Rattle.rl_streams.specs.StreamsState.{StreamsView}
use Rattle.rl_records.specs.declared.step.ShardStep.{ShardStep}
use Rattle.rl_records.specs.declared.step.ShardStep.TheVariants as steps
use Rattle.rl_records.specs.declared.step.ShardReply.{ShardReply}
use Rattle.rl_records.specs.declared.step.ShardReply.TheVariants as replies
use Rattle.rl_shard.specs.declared.step.ShardFault.{ShardFault}
use Rattle.rl_shard.specs.declared.step.ShardFault.TheVariants as faults

-- a moment from which on a window is reached, up to its end
abbrev pub IsStartOf : ℕ → ℕ → ℕ → Type 0
IsStartOf seconds t start = (timestamp : ℕ) → in_window seconds t timestamp ≡ (nat_le start timestamp && nat_le timestamp t)

-- the line is that of an entry which no received request covers
abbrev pub is_shown : RequestsView → LabelSet × Line → Bool
is_shown requests line = not (covered_line requests line.0 line.1.timestamp line.1.text)

-- what lines add up to after stages
abbrev pub counted : List Stage → List (LabelSet × Line) → Partial
counted stages lines = partial_of (flat_map (λ line. runs_of stages line.0 line.1.text) lines)

-- what a part is taken for over any store: its own entries where it is in memory or none is of the range, or the lines of a chunk
-- that bytes with its digest are
abbrev pub IsPartTakenFor : LabelSet → ℕ → ℕ → PartView → List (LabelSet × Line) → Type 0
IsPartTakenFor labels from to part taken = MatchOption part.note (taken ≡ map visited part.entries)
    (λ note. (IsApart from to part.entries × (taken ≡ map visited part.entries)) ⊎ ((chunk : Chunk) × IsReadAs note.digest chunk × (taken ≡ map (λ line. (labels, line)) chunk.lines)))

-- and a stream: each of its parts, and its head
pub record AreTakenFor (from to : ℕ) (stream : StreamView) (taken : List (LabelSet × Line)) : Type 0 where
  pub parts : List (List (LabelSet × Line))
  pub each : AllZip (IsPartTakenFor stream.labels from to) stream.parts parts
  pub all : taken ≡ flat_map (λ part. part) parts ++ map visited stream.head

-- a stream that is selected, and none of another
abbrev pub IsRowTakenFor : List Matcher → ℕ → ℕ → Row → List (LabelSet × Line) → Type 0
IsRowTakenFor selector from to row taken = MatchBool (selects selector row.0) (AreTakenFor from to row.1 taken) (taken ≡ [])

-- what streams hold that a selector selects, as it is visited
abbrev pub held_lines : List Matcher → List Row → List (LabelSet × Line)
held_lines selector rows = map visited (filter (λ entry. selects selector entry.labels) (joined rows))

-- the lines of a range's window among what its streams are taken for, without those that a received request covers. Where these
-- are taken for what they hold, as where no other bytes with a noted digest were read, LogQL gives what the lines add up to from
-- scratch on the entries that they hold and no received request covers
pub record AreLinesOf (rows : List Row) (requests : RequestsView) (range : LogRange) (t : ℕ) (lines : List (LabelSet × Line)) : Type 0 where
  pub start : ℕ
  pub starts : IsStartOf range.seconds t start
  pub taken : List (List (LabelSet × Line))
  pub each : AllZip (IsRowTakenFor range.selector.matchers start t) rows taken
  pub shown : lines ≡ filter (λ line. in_window range.seconds t line.1.timestamp && is_shown requests line) (flat_map (λ of_row. of_row) taken)
  pub own : flat_map (λ of_row. of_row) taken ≡ held_lines range.selector.matchers rows → (term : Term) → term.range ≡ range → counted range.stages lines ≡ partial (uncovered (covered requests) (joined rows)) term t

-- what such lines add up to after the range's stages
pub record IsRead (rows : List Row) (requests : RequestsView) (range : LogRange) (t : ℕ) (found : Partial) : Type 0 where
  pub lines : List (LabelSet × Line)
  pub are : AreLinesOf rows requests range t lines
  pub adds_up : found ≡ counted range.stages lines

-- the entries of streams that no received request covers
abbrev pub shown : StreamsView → RequestsView → List Entry
shown streams requests = uncovered (covered requests) (keys streams.held)

-- partials of terms, one for each: what was read for them
abbrev pub AreReadFor : StreamsView → RequestsView → List Term → (t : ℕ) → List Partial → Type 0
AreReadFor streams requests terms t partials = AllZip (λ term found. IsRead streams.rows requests term.range t found) terms partials

-- what is collected is what windows of the slot have that answer these terms, or was read
abbrev pub AreRead : StreamsView → RequestsView → List SlotView → ShardStep → ShardReply → Type 0
AreRead streams requests slots (steps.Collect slot terms t) (replies.Collected partials) = IsLiveIn slot terms t slots ⊎ AreReadFor streams requests terms t partials
AreRead streams requests slots step reply = Unit {0}

-- a fault that reading may meet
abbrev pub IsOfReading : ShardFault → Type 0
IsOfReading faults.Fault = Unit {0}
IsOfReading faults.Damaged = Unit {0}
IsOfReading faults.Memory = Unit {0}
IsOfReading other = ⊥
