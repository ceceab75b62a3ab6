-- What the calls make of the rows of streams.
use Rattle.std.specs.Prelude.{◌≡◌, ℕ, ◌+◌, ◌≤◌, ◌⊎◌, max, not, Bool, true, false, List, [], ◌∷◌, ◌++◌, length, Option, Some, Result, Ok, Err, MatchOption, slice_get}
use Rattle.std.specs.List.{AllByRecursion}
use Rattle.std.specs.List.Sorted.{IsPermutation}
use Rattle.std.specs.Map.{keys_of}
use Rattle.indexmap.specs.IndexMap.{set_value_at}
use Rattle.rl_labels.specs.LabelSet.{LabelSet}
use Rattle.rl_labels.specs.LabelText.{label_set_eq}
use Rattle.rl_labels.specs.declared.entry.Entry.{Entry}
use Rattle.rl_parts.specs.ChunksState.{ChunksView}
use Rattle.rl_parts.specs.StreamParts.{StreamView, entries_of}
use Rattle.rl_parts.specs.Changes.{IsStarted, IsInserted, IsHeld, AreSealed}
use Rattle.rl_parts.specs.declared.fault.ReadFault.TheVariants as reads
use Rattle.rl_streams.specs.StreamRows.{Row, joined, by_stream, newest_in, loose_in, unwritten_in, newest_map, numbers_in, raised, is_among, AreGiven, AreStreams}
use Rattle.rl_streams.specs.declared.refusal.AddRefusal.{AddRefusal}
use Rattle.rl_streams.specs.declared.refusal.AddRefusal.TheVariants.{Expired, TooFarBehind, Full, Read}

-- no stream has the labels
abbrev pub AreOthers : LabelSet → List Row → Type 0
AreOthers labels rows = AllByRecursion (λ row. label_set_eq labels row.0 ≡ false) rows

-- where the stream with the labels stands, if there is one
abbrev pub IsPositionOf : List Row → LabelSet → Option ℕ → Type 0
IsPositionOf rows labels position = MatchOption position (AreOthers labels rows) (λ i. (stream : StreamView) × (slice_get rows i ≡ Some (labels, stream)))

-- streams that hold what they held, over the same chunks
pub record AreCut (old new : List Row) : Type 0 where
  pub entries : joined new ≡ joined old
  pub order : by_stream new ≡ by_stream old
  pub newest : newest_in new ≡ newest_in old
  pub numbers : numbers_in new ≡ numbers_in old
  pub streams : (chunks : ChunksView) → AreStreams old chunks → AreStreams new chunks

-- streams that hold what they held, over chunks that have more of their parts
pub record AreFlushed (old : List Row) (before : ChunksView) (new : List Row) (after : ChunksView) : Type 0 where
  pub entries : joined new ≡ joined old
  pub order : by_stream new ≡ by_stream old
  pub newest : newest_in new ≡ newest_in old
  pub loose : loose_in new ≡ loose_in old
  pub up : before.next ≤ after.next
  pub counted : after.next + length (unwritten_in new) ≡ before.next + length (unwritten_in old)
  pub given : AreGiven (numbers_in old) before.next after.next (numbers_in new)
  pub streams : AreStreams old before → AreStreams new after

-- the stream has taken the entry, where a part has at most so many
pub record Gains (most : ℕ) (old : StreamView) (entry : Entry) (new : StreamView) : Type 0 where
  pub labels : new.labels ≡ old.labels
  pub newest : new.newest ≡ max old.newest entry.timestamp
  pub entries : IsInserted (entries_of old) entry (entries_of new)
  pub parts : AreSealed old.parts new.parts
  pub held : IsHeld most old entry new

-- where there is one more entry, the stream has taken it, and else it is as it was
abbrev pub IsOffered : ℕ → Bool → StreamView → Entry → StreamView → Type 0
IsOffered most true old entry new = Gains most old entry new
IsOffered most false old entry new = new ≡ old

-- a stream of the entry alone came after the others
pub record IsBegun (most : ℕ) (old : List Row) (entry : Entry) (new : List Row) : Type 0 where
  pub others : AreOthers entry.labels old
  pub stream : StreamView
  pub labels : stream.labels ≡ entry.labels
  pub newest : stream.newest ≡ entry.timestamp
  pub started : IsStarted most entry stream
  pub becomes : new ≡ old ++ (entry.labels, stream) ∷ []

-- the stream of its labels holds the entry too, and seals its head where that has `most` entries by now; the others are as they were
pub record IsHeldAt (most : ℕ) (old : List Row) (entry : Entry) (new : List Row) : Type 0 where
  pub position : ℕ
  pub stream : StreamView
  pub stands : slice_get old position ≡ Some (entry.labels, stream)
  pub now : StreamView
  pub labels : now.labels ≡ stream.labels
  pub newest : now.newest ≡ max stream.newest entry.timestamp
  pub held : IsHeld most stream entry now
  pub becomes : new ≡ set_value_at old position now

-- the entry begins a stream, or the stream of its labels holds it too
abbrev pub IsTakenBy : ℕ → List Row → Entry → List Row → Type 0
IsTakenBy most old entry new = IsBegun most old entry new ⊎ IsHeldAt most old entry new

-- streams that hold one entry more, with its stream's newest timestamp raised to its own
pub record AreAdded (most : ℕ) (old : List Row) (entry : Entry) (new : List Row) : Type 0 where
  pub rows : IsTakenBy most old entry new
  pub entries : IsPermutation (entry ∷ joined old) (joined new)
  pub newest : newest_map (newest_in new) ≡ raised (newest_map (newest_in old)) entry.labels entry.timestamp
  pub labels : (more : List LabelSet) × (keys_of new ≡ keys_of old ++ more)
  pub numbers : numbers_in new ≡ numbers_in old
  pub streams : (chunks : ChunksView) → AreStreams old chunks → (chunks.seen.honest ≡ true → is_among entry (joined old) ≡ false) → AreStreams new chunks

-- where there is one more entry, the streams hold it too, and else they are as they were
abbrev pub AreOffered : ℕ → Bool → List Row → Entry → List Row → Type 0
AreOffered most true old entry new = AreAdded most old entry new
AreOffered most false old entry new = new ≡ old

-- over an honest store: there is one more entry where it was not held. The search for it may fail, but finds nothing damaged
abbrev pub IsOfferedRight : Result Bool AddRefusal → Bool → Type 0
IsOfferedRight (Ok more) held = more ≡ not held
IsOfferedRight (Err Full) held = held ≡ false
IsOfferedRight (Err (Read reads.Fault)) held = Unit {0}
IsOfferedRight (Err (Read reads.Damaged)) held = ⊥
IsOfferedRight (Err (Read reads.Memory)) held = Unit {0}
IsOfferedRight (Err (Expired _)) held = ⊥
IsOfferedRight (Err (TooFarBehind _)) held = ⊥
