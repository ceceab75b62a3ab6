-- What streams are taken for over any store: what is visited of a range of time is what of that is of the range.
use Rattle.std.proofs.Common.{◌≡◌, ◌<◌, leb, ℕ, Bool, true, false, cond, not, ◌&&◌, ◌⊎◌, List, [], ◌∷◌, ◌++◌, map, None, Some, refl, sym, ap, ◌∙◌, ⊎_elim, inl, inr}
use Rattle.std.specs.Option.{MatchOption}
use Rattle.std.specs.Prelude.{MatchBool}
use Rattle.std.specs.List.{AllByRecursion, AllZip, filter, flat_map}
use Rattle.std.proofs.lemmas.Bool.{lt-leb, and_right}
use Rattle.std.proofs.lemmas.List.Folds.{flat_map-map}
use Rattle.std.proofs.lemmas.List.Elements.{filter-append, recursion_from_All}
use Rattle.rl_labels.specs.LabelSet.{LabelSet}
use Rattle.rl_labels.specs.Selects.{selects}
use Rattle.rl_labels.specs.declared.entry.Entry.{Entry}
use Rattle.rl_labels.specs.declared.matcher.Matcher.{Matcher}
use Rattle.rl_chunks.specs.declared.chunk.Chunk.{Chunk}
use Rattle.rl_chunks.specs.declared.line.Line.{Line}
use Rattle.rl_query.specs.declared.query.LogRange.{LogRange}
use Rattle.rl_query.specs.declared.query.Term.{Term}
use Rattle.rl_query.specs.declared.stages.Stage.{Stage}
use Rattle.rl_aggregate.specs.InRange.{runs_of, entry_runs, in_window}
use Rattle.rl_aggregate.specs.Partials.{partial, partial_of}
use Rattle.rl_aggregate.specs.laws.Counting.{filter-both}
use Rattle.rl_deletes.specs.Deletes.{RequestsView, covered}
use Rattle.rl_parts.specs.Reading.{IsApart, IsPiece, IsReadAs, visited, visited_in_range}
use Rattle.rl_parts.specs.Rewriting.{uncovered}
use Rattle.rl_parts.specs.StreamParts.{PartView, StreamView}
use Rattle.rl_streams.specs.Asking.{AreOfParts, AreOfRow}
use Rattle.rl_streams.specs.StreamRows.{Row, joined}
use Rattle.rl_shard.specs.Collecting.{counted, held_lines, is_shown, AreLinesOf, AreTakenFor, IsPartTakenFor, IsRowTakenFor}
use Rattle.rl_shard.proofs.Narrow.{filter_flat, filter_map, is_between, start_at, starts_at}

-- what is read of a part is what it is taken for, as far as that is of the range
record PartTaken (labels : LabelSet) (from to : ℕ) (part : PartView) (piece : List (LabelSet × Line)) : Type 0 where
  pub taken : List (LabelSet × Line)
  pub is : IsPartTakenFor labels from to part taken
  pub piece_is : piece ≡ filter (is_between from to) taken

module _ (from to : ℕ) where
  none_between : (entries : List Entry) → AllByRecursion (λ (e : Entry). is_between from to (visited e) ≡ false) entries → filter (is_between from to) (map visited entries) ≡ []
  none_between [] none = refl
  none_between (e ∷ es) none = (λ i. cond (none.0 i) (visited e ∷ filter (is_between from to) (map visited es)) (filter (is_between from to) (map visited es))) ∙ none_between es none.1

  all_before : (entries : List Entry) → AllByRecursion (λ (e : Entry). e.timestamp < from) entries → AllByRecursion (λ (e : Entry). is_between from to (visited e) ≡ false) entries
  all_before [] all = tt
  all_before (e ∷ es) all = (ap (λ b. b && leb e.timestamp to) (lt-leb from e.timestamp all.0), all_before es all.1)

  all_after : (entries : List Entry) → AllByRecursion (λ (e : Entry). to < e.timestamp) entries → AllByRecursion (λ (e : Entry). is_between from to (visited e) ≡ false) entries
  all_after [] all = tt
  all_after (e ∷ es) all = (ap (λ b. leb from e.timestamp && b) (lt-leb e.timestamp to all.0) ∙ and_right (leb from e.timestamp) false refl, all_after es all.1)

  apart_none : (entries : List Entry) → IsApart from to entries → filter (is_between from to) (map visited entries) ≡ []
  apart_none entries apart = ⊎_elim
      (λ before. none_between entries (all_before entries (recursion_from_All (λ (e : Entry). e.timestamp < from) entries before)))
      (λ later. none_between entries (all_after entries (recursion_from_All (λ (e : Entry). to < e.timestamp) entries later)))
      apart

  part_taken : (labels : LabelSet) (part : PartView) (piece : List (LabelSet × Line)) → IsPiece labels from to part piece → PartTaken labels from to part piece
  part_taken labels part piece is =
      let found = by is in
      record { taken = found.0; is = found.1; piece_is = found.2 }
    where
      by : IsPiece labels from to part piece → (taken : List (LabelSet × Line)) × IsPartTakenFor labels from to part taken × (piece ≡ filter (is_between from to) taken)
      by = elim part.note as (λ note. MatchOption note (piece ≡ visited_in_range from to part.entries) (λ note. (IsApart from to part.entries × (piece ≡ [])) ⊎ ((chunk : Chunk) × IsReadAs note.digest chunk × (piece ≡ map (λ line. (labels, line)) (filter (λ (line : Line). leb from line.timestamp && leb line.timestamp to) chunk.lines))))
          → (taken : List (LabelSet × Line)) × MatchOption note (taken ≡ map visited part.entries) (λ note. (IsApart from to part.entries × (taken ≡ map visited part.entries)) ⊎ ((chunk : Chunk) × IsReadAs note.digest chunk × (taken ≡ map (λ line. (labels, line)) chunk.lines))) × (piece ≡ filter (is_between from to) taken)) [
            | None ↦ λ is. (map visited part.entries, refl, is ∙ sym (filter_map (is_between from to) visited part.entries))
            | Some note ↦ ⊎_elim
                (λ apart. (map visited part.entries, inl (apart.0, refl), apart.1 ∙ sym (apart_none part.entries apart.0)))
                (λ chunk. (map (λ (line : Line). (labels, line)) chunk.0.lines, inr (chunk.0, chunk.1, refl), chunk.2 ∙ sym (filter_map (is_between from to) (λ (line : Line). (labels, line)) chunk.0.lines)))
          ]

  -- so of all parts of a stream
  record PartsTaken (labels : LabelSet) (parts : List PartView) (pieces : List (List (LabelSet × Line))) : Type 0 where
    pub taken : List (List (LabelSet × Line))
    pub each : AllZip (IsPartTakenFor labels from to) parts taken
    pub pieces_are : pieces ≡ map (filter (is_between from to)) taken

  parts_taken : (labels : LabelSet) (parts : List PartView) (pieces : List (List (LabelSet × Line))) → AllZip (IsPiece labels from to) parts pieces → PartsTaken labels parts pieces
  parts_taken labels [] [] all = record { taken = []; each = tt; pieces_are = refl }
  parts_taken labels [] (piece ∷ pieces) all = absurd all
  parts_taken labels (part ∷ parts) [] all = absurd all
  parts_taken labels (part ∷ parts) (piece ∷ pieces) all =
      let first = part_taken labels part piece all.0 in
      let others = parts_taken labels parts pieces all.1 in
      record { taken = first.taken ∷ others.taken; each = (first.is, others.each); pieces_are = λ i. first.piece_is i ∷ others.pieces_are i }

  record RowTaken (selector : List Matcher) (row : Row) (lines : List (LabelSet × Line)) : Type 0 where
    pub taken : List (LabelSet × Line)
    pub is : IsRowTakenFor selector from to row taken
    pub lines_are : lines ≡ filter (is_between from to) taken

  stream_taken : (stream : StreamView) (lines : List (LabelSet × Line)) → AreOfParts from to stream lines → (taken : List (LabelSet × Line)) × AreTakenFor from to stream taken × (lines ≡ filter (is_between from to) taken)
  stream_taken stream lines are =
      let parts = parts_taken stream.labels stream.parts are.pieces are.each in (
        flat_map (λ part. part) parts.taken ++ map visited stream.head,
        record { parts = parts.taken; each = parts.each; all = refl },
        are.all
            ∙ (λ i. flat_map (λ piece. piece) (parts.pieces_are i) ++ sym (filter_map (is_between from to) visited stream.head) i)
            ∙ ap (λ first. first ++ filter (is_between from to) (map visited stream.head)) (sym (filter_flat (is_between from to) parts.taken))
            ∙ sym (filter-append (is_between from to) (flat_map (λ part. part) parts.taken) (map visited stream.head)),
      )

  row_taken : (selector : List Matcher) (row : Row) (lines : List (LabelSet × Line)) → AreOfRow selector from to row lines → RowTaken selector row lines
  row_taken selector row lines is =
      let found = by is in
      record { taken = found.0; is = found.1; lines_are = found.2 }
    where
      by : AreOfRow selector from to row lines → (taken : List (LabelSet × Line)) × IsRowTakenFor selector from to row taken × (lines ≡ filter (is_between from to) taken)
      by = elim (selects selector row.0) as (λ b. MatchBool b (AreOfParts from to row.1 lines) (lines ≡ []) → (taken : List (LabelSet × Line)) × MatchBool b (AreTakenFor from to row.1 taken) (taken ≡ []) × (lines ≡ filter (is_between from to) taken)) [
        | true ↦ stream_taken row.1 lines
        | false ↦ λ none. ([], refl, none)
      ]

  -- and of all streams
  record RowsTaken (selector : List Matcher) (rows : List Row) (lines : List (List (LabelSet × Line))) : Type 0 where
    pub taken : List (List (LabelSet × Line))
    pub each : AllZip (IsRowTakenFor selector from to) rows taken
    pub lines_are : lines ≡ map (filter (is_between from to)) taken

  rows_taken : (selector : List Matcher) (rows : List Row) (lines : List (List (LabelSet × Line))) → AllZip (AreOfRow selector from to) rows lines → RowsTaken selector rows lines
  rows_taken selector [] [] all = record { taken = []; each = tt; lines_are = refl }
  rows_taken selector [] (of_row ∷ lines) all = absurd all
  rows_taken selector (row ∷ rows) [] all = absurd all
  rows_taken selector (row ∷ rows) (of_row ∷ lines) all =
      let first = row_taken selector row of_row all.0 in
      let others = rows_taken selector rows lines all.1 in
      record { taken = first.taken ∷ others.taken; each = (first.is, others.each); lines_are = λ i. first.lines_are i ∷ others.lines_are i }

-- those of entries are counted as the entries are
counted_lines : (stages : List Stage) (entries : List Entry) → counted stages (map visited entries) ≡ partial_of (entry_runs stages entries)
counted_lines stages entries = ap partial_of (flat_map-map (λ (line : LabelSet × Line). runs_of stages line.0 line.1.text) visited entries)

-- the first test is of a stream, the others of a line
reorder : (selected in_window shown : Bool) → (selected && (in_window && shown)) ≡ (shown && (in_window && selected))
reorder true true true = refl
reorder true true false = refl
reorder true false true = refl
reorder true false false = refl
reorder false true true = refl
reorder false true false = refl
reorder false false true = refl
reorder false false false = refl

-- where streams are taken for what they hold, the lines add up to what LogQL gives from scratch
taken_for_held : (range : LogRange) (rows : List Row) (requests : RequestsView) (t : ℕ) (taken lines : List (LabelSet × Line)) → lines ≡ filter (λ (line : LabelSet × Line). in_window range.seconds t line.1.timestamp && is_shown requests line) taken
    → taken ≡ held_lines range.selector.matchers rows → (term : Term) → term.range ≡ range → counted range.stages lines ≡ partial (uncovered (covered requests) (joined rows)) term t
taken_for_held range rows requests t taken lines shown own term same =
    let stages = range.stages in
    let matchers = range.selector.matchers in
    let passes = λ (line : LabelSet × Line). in_window range.seconds t line.1.timestamp && is_shown requests line in
    let selected = filter (λ (e : Entry). selects matchers e.labels) (joined rows) in
    let found = λ (es : List Entry). partial_of (entry_runs stages es) in
    ap (counted stages) (shown ∙ ap (filter passes) own ∙ filter_map passes visited selected)
    ∙ counted_lines stages (filter (λ (e : Entry). passes (visited e)) selected)
    ∙ ap found (filter-both (λ (e : Entry). selects matchers e.labels) (λ (e : Entry). passes (visited e)) (joined rows))
    ∙ (λ i. found (filter (λ (e : Entry). reorder (selects matchers e.labels) (in_window range.seconds t e.timestamp) (not (covered requests e)) i) (joined rows)))
    ∙ sym (ap found (filter-both (λ (e : Entry). not (covered requests e)) (λ (e : Entry). in_window range.seconds t e.timestamp && selects matchers e.labels) (joined rows)))
    ∙ (λ i. partial_of (entry_runs (sym same i).stages (filter (λ (e : Entry). in_window (sym same i).seconds t e.timestamp && selects (sym same i).selector.matchers e.labels) (uncovered (covered requests) (joined rows)))))

-- what is visited for a range's window, and is shown, are lines of what its streams are taken for
pub lines_of : (range : LogRange) (rows : List Row) (requests : RequestsView) (t : ℕ) (lines : List (List (LabelSet × Line))) → AllZip (AreOfRow range.selector.matchers (start_at range.seconds t) t) rows lines
    → AreLinesOf rows requests range t (filter (is_shown requests) (flat_map (λ of_row. of_row) lines))
lines_of range rows requests t lines each =
    let start = start_at range.seconds t in
    let found = rows_taken start t range.selector.matchers rows lines each in
    let all = flat_map (λ of_row. of_row) found.taken in
    let shown =
    ap (λ (ls : List (List (LabelSet × Line))). filter (is_shown requests) (flat_map (λ of_row. of_row) ls)) found.lines_are
    ∙ ap (filter (is_shown requests)) (sym (filter_flat (is_between start t) found.taken))
    ∙ filter-both (is_between start t) (is_shown requests) all
    ∙ (λ i. filter (λ (line : LabelSet × Line). sym (starts_at range.seconds t line.1.timestamp) i && is_shown requests line) all) in
    record {
      start = start;
      starts = starts_at range.seconds t;
      taken = found.taken;
      each = found.each;
      shown = shown;
      own = taken_for_held range rows requests t all (filter (is_shown requests) (flat_map (λ of_row. of_row) lines)) shown;
    }
