-- What a cursor has given, and what it has still to give.
use Rattle.std.specs.Prelude.{◌≡◌, ℕ, ◌-◌, ◌≤◌, List, [], ◌∷◌, ◌++◌, length, take, drop, Option, Some, None}
use Rattle.std.specs.List.{AllZip, flat_map}
use Rattle.rl_labels.specs.LabelSet.{LabelSet}
use Rattle.rl_labels.specs.declared.matcher.Matcher.{Matcher}
use Rattle.rl_chunks.specs.declared.line.Line.{Line}
use Rattle.rl_streams.specs.Asking.{left, AreOfRow}
use Rattle.rl_streams.specs.StreamRows.{Row}
use Rattle.rl_streams.specs.StreamsState.{order_of}
use Rattle.rl_streams.specs.declared.cursor.Cursor.{Cursor}

-- the lines that wait, and what is asked of the streams that follow
abbrev pub left_in : {S : Type 0} → Cursor S → List (LabelSet × Line)
left_in cursor = left cursor.selector.now cursor.range.from cursor.range.to (order_of cursor.streams.now) cursor.position cursor.lines

-- the streams from one index up to another were asked in turn, over any store, and their lines wait after the others
pub record AreAsked (rows : List Row) (selector : List Matcher) (from to before : ℕ) (waiting : List (LabelSet × Line)) (after : ℕ) (now : List (LabelSet × Line)) : Type 0 where
  pub up : before ≤ after
  pub lines : List (List (LabelSet × Line))
  pub each : AllZip (AreOfRow selector from to) (take (after - before) (drop before rows)) lines
  pub all : waiting ++ flat_map (λ of_row. of_row) lines ≡ now

abbrev pub one_or_none : Option (LabelSet × Line) → List (LabelSet × Line)
one_or_none None = []
one_or_none (Some line) = line ∷ []

-- the first line of those that waited and of those of the streams that were asked in turn, over any store, is given, and the
-- others wait. None is given only where no stream is left
pub record IsGiven (rows : List Row) (selector : List Matcher) (from to before : ℕ) (waiting : List (LabelSet × Line)) (found : Option (LabelSet × Line)) (after : ℕ) (left : List (LabelSet × Line)) : Type 0 where
  pub up : before ≤ after
  pub lines : List (List (LabelSet × Line))
  pub each : AllZip (AreOfRow selector from to) (take (after - before) (drop before rows)) lines
  pub all : waiting ++ flat_map (λ of_row. of_row) lines ≡ one_or_none found ++ left
  pub end : found ≡ None → length rows ≤ after
