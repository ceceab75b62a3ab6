-- Streams whose heads are sealed one by one.
use Rattle.std.proofs.Common.{◌≡◌, ℕ, List, [], Some, slice_get, refl, sym, ap, ◌∙◌, append-nil}
use Rattle.std.specs.Map.{values_of}
use Rattle.indexmap.specs.IndexMap.{set_value_at}
use Rattle.rl_parts.specs.StreamParts.{StreamView, entries_of}
use Rattle.rl_parts.specs.Changes.{AreSealed}
use Rattle.rl_streams.specs.StreamRows.{Row, numbers_of}
use Rattle.rl_streams.specs.RowSteps.{AreCut}
use Rattle.rl_streams.proofs.Kept.{numbers_sealed}
use Rattle.rl_streams.proofs.RowChanges.{with_key, set_by_row_same, set_same, set_each_same}
use Rattle.rl_streams.proofs.Steps.{streams_sealed}

-- nothing was sealed
pub none_sealed : (old new : StreamView) → new ≡ old → AreSealed old.parts new.parts
none_sealed old new same = record { fresh = []; appended = ap (λ (stream : StreamView). stream.parts) same ∙ sym (append-nil old.parts); unwritten = refl }

-- one head more
pub one_sealed : (first rows : List Row) (i : ℕ) (stream new : StreamView) → AreCut first rows → slice_get (values_of rows) i ≡ Some stream → new.labels ≡ stream.labels → new.newest ≡ stream.newest → entries_of new ≡ entries_of stream → AreSealed stream.parts new.parts
    → AreCut first (set_value_at rows i new)
one_sealed first rows i stream new cut at labels newest entries parts =
    let row = with_key rows i stream at in
    record {
      entries = set_same entries_of rows i row.0 stream new row.1 entries ∙ cut.entries;
      order = set_by_row_same entries_of rows i stream new at entries ∙ cut.order;
      newest = set_each_same (λ (s : StreamView). s.newest) rows i row.0 stream new row.1 newest ∙ cut.newest;
      numbers = set_same numbers_of rows i row.0 stream new row.1 (numbers_sealed stream new parts) ∙ cut.numbers;
      streams = λ chunks are. streams_sealed rows chunks (cut.streams chunks are) i row.0 stream new row.1 labels entries parts;
    }
