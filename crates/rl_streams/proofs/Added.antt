-- Streams that hold one entry more: in the stream of its labels, or in a new one.
use Rattle.std.proofs.Common.{◌≡◌, ℕ, zero, suc, ◌<◌, max, Bool, true, false, cond, Some, None, Option, List, [], ◌∷◌, ◌++◌, map, length, slice_get, get_or, position, inl, inr, refl, sym, ap, subst, ◌∙◌, is_some, true≢false, append-nil, le_of_suc-le-suc, not-suc-le-zero, arith}
use Rattle.std.specs.Prelude.{◌+◌, ◌*◌, nat_lt, if◌then◌else◌}
use Rattle.std.specs.List.{AllByRecursion, IsDistinct}
use Rattle.std.specs.List.Sorted.{IsPermutation}
use Rattle.std.specs.Map.{lookup, keys_of, values_of}
use Rattle.std.specs.BTreeMap.{is_at}
use Rattle.std.specs.Option.{unwrap_or}
use Rattle.std.specs.Ordering.{is_eq, is_lt, nat_cmp}
use Rattle.std.specs.Cmp.{Equal-is, tied_itself}
use Rattle.std.specs.FinMap.{insert}
use Rattle.std.proofs.lemmas.Bool.Decides.{nat_tests}
use Rattle.std.proofs.lemmas.List.Concat.{flat_map-append}
use Rattle.std.proofs.lemmas.List.Quantifiers.{position-Some}
use Rattle.std.proofs.lemmas.Map.Keys.{ge_from_not_lt}
use Rattle.indexmap.specs.IndexMap.{set_value_at, insert_entry}
use Rattle.rl_plain.specs.laws.TreeMaps.{get-of_tree, one_set}
use Rattle.rl_labels.specs.LabelSet.{LabelSet}
use Rattle.rl_labels.specs.LabelText.{label_set_cmp, label_set_eq}
use Rattle.rl_labels.specs.laws.TextLaws.{label_set_cmp_total, label_set_cmp-IsAntisymmetric, label_set_eq_itself, label_set_eq-true}
use Rattle.rl_labels.specs.declared.entry.Entry.{Entry}
use Rattle.rl_labels.specs.declared.limits.Limits.{Limits}
use Rattle.rl_parts.specs.StreamParts.{StreamView, entries_of}
use Rattle.rl_parts.specs.Changes.{IsStarted}
use Rattle.rl_parts.specs.laws.NoteLaws.{notes-started}
use Rattle.rl_streams.specs.StreamRows.{Row, joined, newest_in, newest_map, newest_at, numbers_in, numbers_of}
use Rattle.rl_streams.specs.RowSteps.{Gains, AreAdded, AreOthers, IsPositionOf}
use Rattle.rl_streams.specs.StreamsState.{age_refusal, is_far_behind, half_second}
use Rattle.rl_streams.specs.declared.refusal.AddRefusal.TheVariants.{Expired, TooFarBehind}
use Rattle.rl_streams.proofs.Held.{held_at}
use Rattle.rl_streams.proofs.Kept.{numbers_sealed}
use Rattle.rl_streams.proofs.RowChanges.{same_some, value_at, keys_push, keys_set, set_more, set_same, push_more, set_each_same, lookup_set, lookup_push}
use Rattle.rl_streams.proofs.Steps.{inserted, streams_gained, streams_pushed}

abbrev newest_by : StreamView → ℕ
newest_by stream = stream.newest

tied : (labels : LabelSet) → is_eq (label_set_cmp labels labels) ≡ true
tied labels = ap is_eq (tied_itself label_set_cmp_total labels)

-- the newest timestamp of a stream that is there
pub newest_found : (rows : List Row) (i : ℕ) (labels : LabelSet) (stream : StreamView) → IsDistinct label_set_eq (keys_of rows) → slice_get rows i ≡ Some (labels, stream) → newest_at (newest_map (newest_in rows)) labels ≡ stream.newest
newest_found rows i labels stream apart at =
    ap (λ o. unwrap_or o 0) (get-of_tree label_set_cmp_total (newest_in rows) labels
    ∙ ap (lookup (is_at (label_set_cmp labels))) (sym (set_each_same newest_by rows i labels stream stream at refl))
    ∙ lookup_set label_set_cmp_total label_set_cmp-IsAntisymmetric label_set_eq label_set_eq_itself newest_by rows i labels stream stream labels apart at
    ∙ ap (λ b. cond b (Some stream.newest) (lookup (is_at (label_set_cmp labels)) (newest_in rows))) (tied labels))

-- and of one that is not there
pub newest_missing : (rows : List Row) (labels : LabelSet) → AreOthers labels rows → newest_at (newest_map (newest_in rows)) labels ≡ 0
newest_missing rows labels others = ap (λ o. unwrap_or o 0) (get-of_tree label_set_cmp_total (newest_in rows) labels ∙ none rows others)
  where
    apart : (key : LabelSet) → label_set_eq labels key ≡ false → (b : Bool) → is_eq (label_set_cmp labels key) ≡ b → is_eq (label_set_cmp labels key) ≡ false
    apart key differs true e = absurd (true≢false (sym (label_set_eq_itself labels) ∙ ap (label_set_eq labels) (label_set_cmp-IsAntisymmetric labels key ((Equal-is (label_set_cmp labels key)).0 e)) ∙ differs))
    apart key differs false e = e

    none : (rows : List Row) → AreOthers labels rows → lookup (is_at (label_set_cmp labels)) (newest_in rows) ≡ None
    none [] others = refl
    none (row ∷ rows) others = ap (λ b. cond b (Some row.1.newest) (lookup (is_at (label_set_cmp labels)) (newest_in rows))) (apart row.0 others.0 (is_eq (label_set_cmp labels row.0)) refl) ∙ none rows others.1

-- the stream of its labels took the entry
pub added_at : (most : ℕ) (rows : List Row) (i : ℕ) (entry : Entry) (stream new : StreamView) → IsDistinct label_set_eq (keys_of rows) → slice_get rows i ≡ Some (entry.labels, stream) → Gains most stream entry new → AreAdded most rows entry (set_value_at rows i new)
added_at most rows i entry stream new apart at gains = record {
  rows = inr (record { position = i; stream = stream; stands = at; now = new; labels = gains.labels; newest = gains.newest; held = gains.held; becomes = refl });
  entries = set_more entries_of (entry ∷ []) rows i entry.labels stream new at (inserted (entries_of stream) entry (entries_of new) gains.entries);
  newest =
      one_set label_set_cmp_total label_set_cmp-IsAntisymmetric (newest_in rows) (newest_in (set_value_at rows i new)) entry.labels new.newest (λ q. lookup_set label_set_cmp_total label_set_cmp-IsAntisymmetric label_set_eq label_set_eq_itself newest_by rows i entry.labels stream new q apart at)
      ∙ ap (insert (newest_map (newest_in rows)) entry.labels) (gains.newest ∙ ap (λ newest. max newest entry.timestamp) (sym (newest_found rows i entry.labels stream apart at)));
  labels = ([], keys_set rows i new ∙ sym (append-nil (keys_of rows)));
  numbers = set_same numbers_of rows i entry.labels stream new at (numbers_sealed stream new gains.parts);
  streams = λ chunks are is_new. streams_gained rows chunks are i entry.labels stream new at most entry refl gains (λ honest. sym (held_at entry rows i stream are.own are.apart at) ∙ is_new honest);
}

-- a new stream of the entry
pub added_after : (most : ℕ) (rows : List Row) (entry : Entry) (stream : StreamView) → AreOthers entry.labels rows → stream.labels ≡ entry.labels → stream.newest ≡ entry.timestamp → entries_of stream ≡ entry ∷ [] → IsStarted most entry stream → AreAdded most rows entry (rows ++ (entry.labels, stream) ∷ [])
added_after most rows entry stream others labels newest entries started = record {
  rows = inl (record { others = others; stream = stream; labels = labels; newest = newest; started = started; becomes = refl });
  entries = subst (λ l. IsPermutation (l ++ joined rows) (joined (rows ++ (entry.labels, stream) ∷ []))) entries (push_more entries_of rows (entry.labels, stream));
  newest =
      one_set label_set_cmp_total label_set_cmp-IsAntisymmetric (newest_in rows) (newest_in (rows ++ (entry.labels, stream) ∷ [])) entry.labels stream.newest (λ q. lookup_push label_set_cmp_total label_set_cmp-IsAntisymmetric label_set_eq label_set_eq_itself newest_by rows entry.labels stream q others)
      ∙ ap (insert (newest_map (newest_in rows)) entry.labels) (newest ∙ raised_from_0 ∙ ap (λ before. max before entry.timestamp) (sym (newest_missing rows entry.labels others)));
  labels = (entry.labels ∷ [], keys_push rows (entry.labels, stream));
  numbers =
      flat_map-append (λ (row : Row). numbers_of row.1) rows ((entry.labels, stream) ∷ [])
      ∙ ap (λ notes. numbers_in rows ++ (map (λ note. note.number) notes ++ [])) (notes-started most entry stream started)
      ∙ append-nil (numbers_in rows);
  streams = λ chunks are is_new. streams_pushed rows chunks are entry stream others entries labels (notes-started most entry stream started);
}
  where
    raised_from_0 : entry.timestamp ≡ max 0 entry.timestamp
    raised_from_0 = omega arith

-- a new key comes last
pub inserted_after : (rows : List Row) (labels : LabelSet) (stream : StreamView) → AreOthers labels rows → insert_entry label_set_eq rows labels stream ≡ rows ++ (labels, stream) ∷ []
inserted_after [] labels stream others = refl
inserted_after (row ∷ rows) labels stream others =
    ap (λ b. cond b ((row.0, stream) ∷ rows) (row ∷ insert_entry label_set_eq rows labels stream)) others.0 ∙ ap (λ l. row ∷ l) (inserted_after rows labels stream others.1)

-- where a search for the labels ends
row_in : (rows : List Row) (i : ℕ) (d : LabelSet) → i < length (keys_of rows) → (stream : StreamView) × (slice_get rows i ≡ Some (get_or (keys_of rows) i d, stream))
row_in [] i d within = absurd (not-suc-le-zero within)
row_in (row ∷ rows) zero d within = (row.1, refl)
row_in (row ∷ rows) (suc i) d within = row_in rows i d (le_of_suc-le-suc within)

none_passes : (test : LabelSet → Bool) (rows : List Row) → is_some (lookup test rows) ≡ false → AllByRecursion (λ row. test row.0 ≡ false) rows
none_passes test [] none = tt
none_passes test (row ∷ rows) none = by (test row.0) refl none (none_passes test rows)
  where
    by : (b : Bool) → test row.0 ≡ b → is_some (cond b (Some row.1) (lookup test rows)) ≡ false → (is_some (lookup test rows) ≡ false → AllByRecursion (λ row. test row.0 ≡ false) rows) → (test row.0 ≡ false) × AllByRecursion (λ row. test row.0 ≡ false) rows
    by true e none others = absurd (true≢false none)
    by false e none others = (e, others none)

pub position_found : (rows : List Row) (labels : LabelSet) (index : Option ℕ) → index ≡ position (label_set_eq labels) (keys_of rows) → is_some index ≡ is_some (lookup (label_set_eq labels) rows) → IsPositionOf rows labels index
position_found rows labels None is found = none_passes (label_set_eq labels) rows (sym found)
position_found rows labels (Some i) is found =
    let at = position-Some (label_set_eq labels) (keys_of rows) i labels (sym is) in
    let row = row_in rows i labels at.0 in
    (row.0, row.1 ∙ ap (λ key. Some (key, row.0)) (sym (label_set_eq-true labels (get_or (keys_of rows) i labels) at.1)))

-- a timestamp that is not before another
pub not_before : (a b : ℕ) → is_lt (nat_cmp a b) ≡ false → nat_lt a b ≡ false
not_before a b h = let le = ge_from_not_lt a b h in grind (arith, nat_tests, le)

-- why an entry that is not older than the horizon is refused for its age, by the newest timestamp of its stream
pub age_by : (limits : Limits) (rows : List Row) (horizon : ℕ) (entry : Entry) (newest : ℕ) (far : Bool) → newest_at (newest_map (newest_in rows)) entry.labels ≡ newest → nat_lt entry.timestamp horizon ≡ false → is_far_behind limits entry newest ≡ far
    → age_refusal limits (newest_map (newest_in rows)) horizon entry ≡ (if far then Some (TooFarBehind newest) else None)
age_by limits rows horizon entry newest far is late following =
    let kept = newest_at (newest_map (newest_in rows)) entry.labels in
    ap (λ b. if b then Some (Expired horizon) else (if is_far_behind limits entry kept then Some (TooFarBehind kept) else None)) late
    ∙ ap (λ n. if is_far_behind limits entry n then Some (TooFarBehind n) else None) is
    ∙ ap (λ b. if b then Some (TooFarBehind newest) else None) following

-- an entry of a new stream is not too far behind
pub age_of_new : (limits : Limits) (rows : List Row) (horizon : ℕ) (entry : Entry) → AreOthers entry.labels rows → nat_lt entry.timestamp horizon ≡ false → None ≡ age_refusal limits (newest_map (newest_in rows)) horizon entry
age_of_new limits rows horizon entry others late = sym (age_by limits rows horizon entry 0 false (newest_missing rows entry.labels others) late (not_below (entry.timestamp + limits.chunk_age * half_second)))
  where
    not_below : (n : ℕ) → nat_lt n 0 ≡ false
    not_below n = grind (arith, nat_tests)

-- an entry of a stream that is there
pub age_at : (limits : Limits) (rows : List Row) (i : ℕ) (horizon : ℕ) (entry : Entry) (stream : StreamView) (far : Bool) → IsDistinct label_set_eq (keys_of rows) → IsPositionOf rows entry.labels (Some i) → slice_get (values_of rows) i ≡ Some stream → nat_lt entry.timestamp horizon ≡ false → is_far_behind limits entry stream.newest ≡ far
    → (if far then Some (TooFarBehind stream.newest) else None) ≡ age_refusal limits (newest_map (newest_in rows)) horizon entry
age_at limits rows i horizon entry stream far apart index at late following =
    let same : index.0 ≡ stream = same_some index.0 stream (sym (value_at rows i entry.labels index.0 index.1) ∙ at) in
    sym (age_by limits rows horizon entry stream.newest far (newest_found rows i entry.labels index.0 apart index.1 ∙ ap (λ (s : StreamView). s.newest) same) late following)

-- the row at an index that was found
pub row_of_position : (rows : List Row) (i : ℕ) (labels : LabelSet) (stream : StreamView) → IsPositionOf rows labels (Some i) → slice_get (values_of rows) i ≡ Some stream → slice_get rows i ≡ Some (labels, stream)
row_of_position rows i labels stream index at = index.1 ∙ ap (λ s. Some (labels, s)) (same_some index.0 stream (sym (value_at rows i labels index.0 index.1) ∙ at))
