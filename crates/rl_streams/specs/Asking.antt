-- What is asked of all streams: the entries that a selector selects, in a range of time.
use Rattle.std.specs.Prelude.{◌≡◌, ℕ, Bool, true, ◌&&◌, List, [], ◌++◌, map, drop, get_or, None, MatchBool, if◌then◌else◌}
use Rattle.std.specs.List.{AllZip, filter, flat_map, fold}
use Rattle.std.specs.List.Sorted.{IsPermutation}
use Rattle.std.specs.FinMap.{FinMap, get, keys}
use Rattle.rl_labels.specs.EntryOrder.{EntrySet}
use Rattle.rl_labels.specs.LabelText.{label_set_cmp}
use Rattle.rl_labels.specs.LabelSet.{LabelSet}
use Rattle.rl_labels.specs.Selects.{selects}
use Rattle.rl_labels.specs.declared.entry.Entry.{Entry}
use Rattle.rl_labels.specs.declared.matcher.Matcher.{Matcher}
use Rattle.rl_chunks.specs.declared.line.Line.{Line}
use Rattle.rl_parts.specs.StreamParts.{StreamView, entries_of}
use Rattle.rl_parts.specs.Reading.{is_in_range, visited, visited_in_range, IsPiece}
use Rattle.rl_streams.specs.StreamRows.{Row}

abbrev pub is_asked : List Matcher → ℕ → ℕ → Entry → Bool
is_asked selector from to entry = selects selector entry.labels && is_in_range from to entry

-- the entries that are asked for
abbrev pub asked : List Matcher → ℕ → ℕ → List Entry → List Entry
asked selector from to entries = filter (is_asked selector from to) entries

-- what is visited of a stream: nothing where it is not selected
abbrev pub visited_of : List Matcher → ℕ → ℕ → LabelSet → StreamView → List (LabelSet × Line)
visited_of selector from to labels stream = if selects selector labels then visited_in_range from to (entries_of stream) else []

-- what is visited of all streams
abbrev pub visited_by : List Matcher → ℕ → ℕ → List Row → List (LabelSet × Line)
visited_by selector from to rows = flat_map (λ row. visited_of selector from to row.0 row.1) rows

-- no stream is selected
abbrev pub NoneSelected : List Matcher → FinMap label_set_cmp ℕ → Type 0
NoneSelected selector newest = (labels : LabelSet) → selects selector labels ≡ true → get newest labels ≡ None

-- the held entries that are asked for were visited, each once, in some order
pub record AreVisitedOnce {T : Type 0} (selector : List Matcher) (from to : ℕ) (held : EntrySet) (visiting : T → LabelSet × Line → T) (before after : T) : Type 0 where
  pub order : List Entry
  pub once : IsPermutation (asked selector from to (keys held)) order
  pub visited : after ≡ fold visiting before (map visited order)

-- lines of a stream over any store: a piece of each part, and what its head has in the range
pub record AreOfParts (from to : ℕ) (stream : StreamView) (lines : List (LabelSet × Line)) : Type 0 where
  pub pieces : List (List (LabelSet × Line))
  pub each : AllZip (IsPiece stream.labels from to) stream.parts pieces
  pub all : lines ≡ flat_map (λ piece. piece) pieces ++ visited_in_range from to stream.head

-- they are those of a stream that is selected, and none of another
abbrev pub AreOfRow : List Matcher → ℕ → ℕ → Row → List (LabelSet × Line) → Type 0
AreOfRow selector from to row lines = MatchBool (selects selector row.0) (AreOfParts from to row.1 lines) (lines ≡ [])

-- such lines of one stream were visited, and this is what the visitor became by them
pub record IsVisitedOf {T : Type 0} (visiting : T → LabelSet × Line → T) (selector : List Matcher) (from to : ℕ) (row : Row) (before after : T) : Type 0 where
  pub lines : List (LabelSet × Line)
  pub of_row : AreOfRow selector from to row lines
  pub visited : after ≡ fold visiting before lines

-- such lines of each stream in turn were visited, and this is what the visitor became by them
pub record AreVisited {T : Type 0} (visiting : T → LabelSet × Line → T) (selector : List Matcher) (from to : ℕ) (rows : List Row) (before after : T) : Type 0 where
  pub lines : List (List (LabelSet × Line))
  pub each : AllZip (AreOfRow selector from to) rows lines
  pub visited : after ≡ fold visiting before (flat_map (λ of_row. of_row) lines)

-- what is visited of one stream of all
abbrev pub visited_at : List Matcher → ℕ → ℕ → List (List Entry) → ℕ → List (LabelSet × Line)
visited_at selector from to order position = map visited (asked selector from to (get_or order position []))

-- what a cursor has still to give: the lines that wait, and what is asked of the streams from an index on
abbrev pub left : List Matcher → ℕ → ℕ → List (List Entry) → ℕ → List (LabelSet × Line) → List (LabelSet × Line)
left selector from to order position lines = lines ++ map visited (asked selector from to (flat_map (λ entries. entries) (drop position order)))
