-- How a part is seen, wherever its entries are.
use Rattle.std.specs.Prelude.{◌≡◌, ℕ, ◌-◌, List, length, Option, None, Some, slice_get}
use Rattle.std.specs.Option.{option_map, unwrap_or}
use Rattle.rl_labels.specs.LabelSet.{LabelSet}
use Rattle.rl_labels.specs.declared.entry.Entry.{Entry}
use Rattle.rl_parts.specs.ChunksState.{ChunksView}
use Rattle.rl_parts.specs.StreamParts.{Note, PartView}
use Rattle.rl_parts.specs.StoreUse.{IsKept}
use Rattle.rl_parts.specs.Fingerprints.{AreFingerprints}
use Rattle.rl_parts.specs.declared.part.Written.{Written}
use Rattle.rl_parts.specs.declared.part.Location.{Location}
use Rattle.rl_parts.specs.declared.part.Location.TheVariants.{Here, InStore}

abbrev pub entries_at : Location → List Entry
entries_at (Here entries) = entries
entries_at (InStore written) = written.entries.value

abbrev pub note_at : Location → Option Note
note_at (Here entries) = None
note_at (InStore written) = Some (record { number = written.number; digest = written.digest })

abbrev pub part_at : Location → PartView
part_at location = record { entries = entries_at location; note = note_at location }

-- the timestamp of the entry at an index, 0 where there is none
abbrev pub timestamp_at : List Entry → ℕ → ℕ
timestamp_at entries index = unwrap_or (option_map (λ entry. entry.timestamp) (slice_get entries index)) 0

-- the timestamps of the first and the last entry
pub record IsRange (entries : List Entry) (first last : ℕ) : Type 0 where
  pub start : first ≡ timestamp_at entries 0
  pub end : last ≡ timestamp_at entries (length entries - 1)

-- the range and the fingerprints that are kept of a written part are its own
abbrev pub RangeAndFingerprintsAreKept : Location → Type 0
RangeAndFingerprintsAreKept (Here entries) = Unit {0}
RangeAndFingerprintsAreKept (InStore written) = IsRange written.entries.value written.first written.last × AreFingerprints written.entries.value written.fingerprints

-- what is kept of entries that were written under a number, over the chunks that there are then
pub record IsWritten (chunks : ChunksView) (labels : LabelSet) (entries : List Entry) (number : ℕ) (written : Written) : Type 0 where
  pub entries_are : written.entries.value ≡ entries
  pub range : IsRange entries written.first written.last
  pub fingerprints : AreFingerprints entries written.fingerprints
  pub number_is : written.number ≡ number
  pub kept : IsKept chunks labels (part_at (InStore written))
