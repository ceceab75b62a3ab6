-- Streams whose parts are written one by one.
use Rattle.std.proofs.Common.{◌≡◌, ℕ, ◌+◌, ◌-◌, List, [], ◌∷◌, ◌++◌, Some, slice_get, length, filter, inl, refl, ◌∙◌, arith}
use Rattle.std.specs.List.{range_with_len}
use Rattle.std.specs.Map.{values_of}
use Rattle.std.specs.Option.{is_none}
use Rattle.std.proofs.lemmas.List.Sorted.{Contains-permutation, IsPermutation-append_comm, IsPermutation-sym, IsPermutation-trans}
use Rattle.indexmap.specs.IndexMap.{set_value_at}
use Rattle.rl_parts.specs.ChunksState.{ChunksView}
use Rattle.rl_parts.specs.StreamParts.{PartView, StreamView, entries_of}
use Rattle.rl_parts.specs.Changes.{AreNoted, unwritten_count}
use Rattle.rl_parts.specs.StoreUse.{AreKept, Keeps}
use Rattle.rl_parts.specs.laws.NoteLaws.{numbers-noted}
use Rattle.rl_streams.specs.StreamRows.{Row, numbers_in, numbers_of}
use Rattle.rl_streams.specs.RowSteps.{AreFlushed}
use Rattle.rl_streams.proofs.Numbers.{given_in, given_then}
use Rattle.rl_streams.proofs.RowChanges.{at_row, with_key, set_by_row_same, set_long, set_more, set_same, set_each_same}
use Rattle.rl_streams.proofs.Steps.{streams_noted}

-- none yet
pub none_written : (rows : List Row) (chunks : ChunksView) → AreFlushed rows chunks rows chunks
none_written rows chunks = record { entries = refl; order = refl; newest = refl; loose = refl; up = omega arith; counted = refl; given = λ number there. inl there; streams = λ are. are }

-- the parts of one stream more, or some of them
pub one_written : (first : List Row) (a : ChunksView) (rows : List Row) (b : ChunksView) (i : ℕ) (stream new : StreamView) (c : ChunksView)
    → AreFlushed first a rows b → slice_get (values_of rows) i ≡ Some stream → new.labels ≡ stream.labels → new.newest ≡ stream.newest → new.head ≡ stream.head → entries_of new ≡ entries_of stream
    → AreNoted stream.parts b.next new.parts c.next → c.next + unwritten_count new.parts ≡ b.next + unwritten_count stream.parts → (AreKept b stream → AreKept c new) → Keeps b c → AreFlushed first a (set_value_at rows i new) c
one_written first a rows b i stream new c flushed at labels newest head entries noted counted kept keeps =
    let row = with_key rows i stream at in
    record {
      entries = set_same entries_of rows i row.0 stream new row.1 entries ∙ flushed.entries;
      order = set_by_row_same entries_of rows i stream new at entries ∙ flushed.order;
      newest = set_each_same (λ (s : StreamView). s.newest) rows i row.0 stream new row.1 newest ∙ flushed.newest;
      loose = set_same (λ (s : StreamView). s.head) rows i row.0 stream new row.1 head ∙ flushed.loose;
      up = omega (arith, flushed.up, keeps.up);
      counted = omega (arith, flushed.counted, counted, set_long (λ (s : StreamView). filter (λ part. is_none part.note) s.parts) rows i row.0 stream new row.1);
      given =
          let fresh = range_with_len b.next (c.next - b.next) in
          let moved = set_more numbers_of fresh rows i row.0 stream new row.1 (IsPermutation-trans _ _ _ (IsPermutation-append_comm fresh (numbers_of stream)) (numbers-noted stream.parts new.parts b.next c.next noted)) in
          given_then (numbers_in first) a.next (numbers_in rows) b.next (numbers_in (set_value_at rows i new)) c.next flushed.up keeps.up flushed.given
          (λ number there. given_in (numbers_in rows) b.next c.next keeps.up number (Contains-permutation (numbers_in (set_value_at rows i new)) (fresh ++ numbers_in rows) number (IsPermutation-sym _ _ moved) there));
      streams = λ are.
          let now = flushed.streams are in
          streams_noted rows b now i row.0 stream new row.1 c labels entries noted keeps (kept (at_row (λ row. AreKept b row.1) rows i (row.0, stream) now.kept row.1));
    }

-- a stream without parts to write
pub no_parts : (parts : List PartView) → unwritten_count parts ≡ 0 → filter (λ part. is_none part.note) parts ≡ []
no_parts parts none = empty (filter (λ part. is_none part.note) parts) none
  where
    empty : {A : Type 0} (xs : List A) → length xs ≡ 0 → xs ≡ []
    empty [] e = refl
    empty (x ∷ xs) e = absurd (omega (arith, e))
