-- What is always true of the streams of a shard stays true, and what their list of entries becomes.
use Rattle.std.proofs.Common.{◌≡◌, ◌-◌, ℕ, Bool, true, false, ◌||◌, true≢false, Some, List, [], ◌∷◌, ◌++◌, map, slice_get, refl, sym, ap, subst, ◌∙◌, arith}
use Rattle.std.specs.Prelude.{nat_eq}
use Rattle.std.specs.List.{All, AllByRecursion, IsDistinct, list_any, range_with_len}
use Rattle.std.specs.List.Sorted.{IsPermutation}
use Rattle.std.specs.Map.{keys_of}
use Rattle.std.specs.Ordering.{eq_by_cmp}
use Rattle.std.specs.Cmp.{eq_by_cmp_equiv, nat_eq_equiv}
use Rattle.std.proofs.lemmas.List.Elements.{All-cons, All-nil}
use Rattle.std.proofs.lemmas.List.Sorted.{IsPermutation-trans, IsPermutation-append_comm, IsPermutation-insert, All-permutation}
use Rattle.std.proofs.lemmas.Map.Keys.{IsDistinct-cons, IsDistinct-push, IsDistinct-IsPermutation}
use Rattle.indexmap.specs.IndexMap.{set_value_at}
use Rattle.rl_labels.specs.LabelSet.{LabelSet}
use Rattle.rl_labels.specs.LabelText.{label_set_eq}
use Rattle.rl_labels.specs.EntryOrder.{entry_cmp}
use Rattle.rl_labels.specs.laws.OrderLaws.{entry_cmp_total}
use Rattle.rl_labels.specs.laws.TextLaws.{label_set_eq_equiv}
use Rattle.rl_labels.specs.declared.entry.Entry.{Entry}
use Rattle.rl_parts.specs.ChunksState.{ChunksView}
use Rattle.rl_parts.specs.StreamParts.{StreamView, entries_of, notes_of}
use Rattle.rl_parts.specs.StoreUse.{AreKept, Keeps}
use Rattle.rl_parts.specs.Changes.{IsInserted, AreSealed, AreNoted}
use Rattle.rl_streams.specs.StreamRows.{Row, joined, numbers_of, numbers_in, is_among, IsOwn, AreStreams}
use Rattle.rl_streams.specs.RowSteps.{Gains}
use Rattle.rl_streams.specs.laws.HeldLaws.{none_ties}
use Rattle.rl_streams.proofs.Held.{not_held, held_at}
use Rattle.rl_parts.specs.laws.NoteLaws.{numbers-noted}
use Rattle.rl_parts.specs.laws.EachLaws.{all_more, all_weaker}
use Rattle.rl_parts.specs.laws.UseLaws.{AreKept-keeps, AreKept-unwritten}
use Rattle.rl_streams.proofs.Kept.{kept_sealed, numbers_sealed}
use Rattle.rl_streams.proofs.Numbers.{row_apart, all_below}
use Rattle.rl_streams.proofs.RowChanges.{at_row, all_set, keys_set, keys_push, to_keys, set_same, set_more, push_more}

-- an item that is not in a list
apart_from : {K : Type 0} (p : K → Bool) (xs : List K) → list_any p xs ≡ false → AllByRecursion (λ y. p y ≡ false) xs
apart_from p [] h = tt
apart_from p (x ∷ xs) h = by (p x) refl h (apart_from p xs)
  where
    by : (b : Bool) → p x ≡ b → (b || list_any p xs) ≡ false → (list_any p xs ≡ false → AllByRecursion (λ y. p y ≡ false) xs) → (p x ≡ false) × AllByRecursion (λ y. p y ≡ false) xs
    by true e h others = absurd (true≢false h)
    by false e h others = (e, others h)

-- a list without an entry twice, and one more that is not in it
one_more_once : (entry : Entry) (old new : List Entry) → IsPermutation (entry ∷ old) new → is_among entry old ≡ false → IsDistinct (eq_by_cmp entry_cmp) old → IsDistinct (eq_by_cmp entry_cmp) new
one_more_once entry old new moved is_new once =
    IsDistinct-IsPermutation (eq_by_cmp entry_cmp) (eq_by_cmp_equiv entry_cmp_total).symm (entry ∷ old) new moved
    (IsDistinct-cons (eq_by_cmp entry_cmp) entry old (apart_from (eq_by_cmp entry_cmp entry) old is_new) once)

pub inserted : (old : List Entry) (entry : Entry) (new : List Entry) → IsInserted old entry new → IsPermutation (entry ∷ old) new
inserted old entry new put = subst (IsPermutation (entry ∷ old)) (sym put.is) (IsPermutation-insert old put.index entry)

module _ (rows : List Row) (old : ChunksView) (are : AreStreams rows old) where
  -- where chunks keep what they kept
  pub streams_kept : (new : ChunksView) → Keeps old new → AreStreams rows new
  streams_kept new keeps = record {
    own = are.own;
    apart = are.apart;
    kept = all_weaker (λ row. AreKept old row.1) (λ row. AreKept new row.1) (λ row. AreKept-keeps old new row.1 keeps) rows are.kept;
    numbers = are.numbers;
    once = λ honest. are.once (sym keeps.honest ∙ honest);
  }

  module _ (i : ℕ) (labels : LabelSet) (stream new : StreamView) (at : slice_get rows i ≡ Some (labels, stream)) where
    -- where a stream has the same entries, and new parts that the store does not have
    pub streams_sealed : new.labels ≡ stream.labels → entries_of new ≡ entries_of stream → AreSealed stream.parts new.parts → AreStreams (set_value_at rows i new) old
    streams_sealed same_labels same sealed =
        let row = at_row IsOwn rows i (labels, stream) are.own at in
        record {
          own = all_set IsOwn rows i labels stream new at are.own (record { labels = same_labels ∙ row.labels; entries = subst (All (λ entry. entry.labels ≡ labels)) (sym same) row.entries });
          apart = subst (IsDistinct label_set_eq) (sym (keys_set rows i new)) are.apart;
          kept = all_set (λ row. AreKept old row.1) rows i labels stream new at are.kept (kept_sealed old stream new same_labels sealed (at_row (λ row. AreKept old row.1) rows i (labels, stream) are.kept at));
          numbers = subst (IsDistinct nat_eq) (sym (set_same numbers_of rows i labels stream new at (numbers_sealed stream new sealed))) are.numbers;
          once = λ honest. subst (IsDistinct (eq_by_cmp entry_cmp)) (sym (set_same entries_of rows i labels stream new at same)) (are.once honest);
        }

    -- where a stream took an entry
    joined_gained : (most : ℕ) (entry : Entry) → Gains most stream entry new → IsPermutation (entry ∷ joined rows) (joined (set_value_at rows i new))
    joined_gained most entry gains = set_more entries_of (entry ∷ []) rows i labels stream new at (inserted (entries_of stream) entry (entries_of new) gains.entries)

    pub streams_gained : (most : ℕ) (entry : Entry) → labels ≡ entry.labels → Gains most stream entry new → (old.seen.honest ≡ true → is_among entry (entries_of stream) ≡ false) → AreStreams (set_value_at rows i new) old
    streams_gained most entry of gains is_new =
        let row = at_row IsOwn rows i (labels, stream) are.own at in
        let moved = inserted (entries_of stream) entry (entries_of new) gains.entries in
        record {
          own = all_set IsOwn rows i labels stream new at are.own (record {
            labels = gains.labels ∙ row.labels;
            entries = All-permutation (λ other. other.labels ≡ labels) (entry ∷ entries_of stream) (entries_of new) moved (All-cons (λ other. other.labels ≡ labels) entry (entries_of stream) (sym of) row.entries);
          });
          apart = subst (IsDistinct label_set_eq) (sym (keys_set rows i new)) are.apart;
          kept = all_set (λ row. AreKept old row.1) rows i labels stream new at are.kept (kept_sealed old stream new gains.labels gains.parts (at_row (λ row. AreKept old row.1) rows i (labels, stream) are.kept at));
          numbers = subst (IsDistinct nat_eq) (sym (set_same numbers_of rows i labels stream new at (numbers_sealed stream new gains.parts))) are.numbers;
          once = λ honest. one_more_once entry (joined rows) (joined (set_value_at rows i new)) (joined_gained most entry gains)
              (held_at entry rows i stream are.own are.apart (at ∙ ap (λ set. Some (set, stream)) of) ∙ is_new honest) (are.once honest);
        }

    -- where the store has more parts of a stream
    pub streams_noted : (after : ChunksView) → new.labels ≡ stream.labels → entries_of new ≡ entries_of stream → AreNoted stream.parts old.next new.parts after.next → Keeps old after → AreKept after new → AreStreams (set_value_at rows i new) after
    streams_noted after same_labels same gets keeps kept =
        let row = at_row IsOwn rows i (labels, stream) are.own at in
        let later = streams_kept after keeps in
        let fresh = range_with_len old.next (after.next - old.next) in
        let moved : IsPermutation (fresh ++ numbers_of stream) (numbers_of new) =
        IsPermutation-trans _ _ _ (IsPermutation-append_comm fresh (numbers_of stream)) (numbers-noted stream.parts new.parts old.next after.next gets) in
        record {
          own = all_set IsOwn rows i labels stream new at are.own (record { labels = same_labels ∙ row.labels; entries = subst (All (λ entry. entry.labels ≡ labels)) (sym same) row.entries });
          apart = subst (IsDistinct label_set_eq) (sym (keys_set rows i new)) are.apart;
          kept = all_set (λ row. AreKept after row.1) rows i labels stream new at later.kept kept;
          numbers = IsDistinct-IsPermutation nat_eq nat_eq_equiv.symm (fresh ++ numbers_in rows) (numbers_in (set_value_at rows i new)) (set_more numbers_of fresh rows i labels stream new at moved)
              (row_apart old.next old.next (after.next - old.next) (numbers_in rows) (omega arith) (all_below old rows are.kept) are.numbers);
          once = λ honest. subst (IsDistinct (eq_by_cmp entry_cmp)) (sym (set_same entries_of rows i labels stream new at same)) (later.once honest);
        }

  -- where a stream of one entry came after all
  module _ (entry : Entry) (stream : StreamView) (is_new : AllByRecursion (λ row. label_set_eq entry.labels row.0 ≡ false) rows) (entries : entries_of stream ≡ entry ∷ []) where
    joined_pushed : IsPermutation (entry ∷ joined rows) (joined (rows ++ (entry.labels, stream) ∷ []))
    joined_pushed = subst (λ l. IsPermutation (l ++ joined rows) (joined (rows ++ (entry.labels, stream) ∷ []))) entries (push_more entries_of rows (entry.labels, stream))

    pub streams_pushed : stream.labels ≡ entry.labels → notes_of stream.parts ≡ [] → AreStreams (rows ++ (entry.labels, stream) ∷ []) old
    streams_pushed of none = record {
      own = all_more IsOwn rows (entry.labels, stream) are.own (record { labels = of; entries = subst (All (λ other. other.labels ≡ entry.labels)) (sym entries) (All-cons (λ other. other.labels ≡ entry.labels) entry [] refl (All-nil (λ other. other.labels ≡ entry.labels))) });
      apart = subst (IsDistinct label_set_eq) (sym (keys_push rows (entry.labels, stream))) (IsDistinct-push label_set_eq_equiv (keys_of rows) entry.labels are.apart (none_ties (label_set_eq entry.labels) (keys_of rows) (to_keys (λ key. label_set_eq entry.labels key ≡ false) rows is_new)));
      kept = all_more (λ row. AreKept old row.1) rows (entry.labels, stream) are.kept (AreKept-unwritten old stream.labels stream.parts none);
      numbers = IsDistinct-IsPermutation nat_eq nat_eq_equiv.symm (numbers_in rows) (numbers_in (rows ++ (entry.labels, stream) ∷ []))
          (subst (λ notes. IsPermutation (map (λ note. note.number) notes ++ numbers_in rows) (numbers_in (rows ++ (entry.labels, stream) ∷ []))) none (push_more numbers_of rows (entry.labels, stream))) are.numbers;
      once = λ honest. one_more_once entry (joined rows) (joined (rows ++ (entry.labels, stream) ∷ [])) joined_pushed (not_held entry rows are.own is_new) (are.once honest);
    }
