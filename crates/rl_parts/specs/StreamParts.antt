-- A stream as its parts: sealed ones, of which a store may have some, and the head, which grows.
use Rattle.std.specs.Prelude.{◌≡◌, ℕ, ◌<◌, ◌≤◌, List, [], ◌∷◌, ◌++◌, map, length, Option, None, Some, refl}
use Rattle.std.specs.Coded.{Coded, code_by, coded×, coded_ℕ, coded_list, coded_option}
use Rattle.std.specs.List.{All, AllByRecursion, flat_map}
use Rattle.std.specs.List.Sorted.{IsStrictlySortedBy}
use Rattle.rl_labels.specs.LabelSet.{LabelSet, label_set_code}
use Rattle.rl_labels.specs.EntryOrder.{entry_cmp}
use Rattle.rl_labels.specs.declared.entry.Entry.{Entry}
use Rattle.rl_labels.specs.contracts.entry.Entry as entry_type
use Rattle.rl_chunks.specs.EntryLines.{line_of}
use Rattle.rl_chunks.specs.declared.chunk.Chunk.{Chunk}

-- what is kept of a chunk that a store has: its number, and the digest of its bytes
pub record Note : Type 0 where
  pub number : ℕ
  pub digest : List ℕ

-- sealed entries, and a note where a store has them
pub record PartView : Type 0 where
  pub entries : List Entry
  pub note : Option Note

pub record StreamView : Type 0 where
  pub labels : LabelSet
  -- the sealed ones, the first sealed first
  pub parts : List PartView
  -- entries that are not sealed yet
  pub head : List Entry
  -- the newest timestamp that it ever had, in nanoseconds
  pub newest : ℕ

-- sealed entries that no store has
abbrev pub unwritten : List Entry → PartView
unwritten entries = record { entries = entries; note = None }

-- all entries of a stream, part by part and then the head
abbrev pub entries_of : StreamView → List Entry
entries_of stream = flat_map (λ part. part.entries) stream.parts ++ stream.head

abbrev pub listed : Option Note → List Note
listed None = []
listed (Some note) = note ∷ []

-- the notes of the parts that have one
abbrev pub notes_of : List PartView → List Note
notes_of parts = flat_map (λ part. listed part.note) parts

-- the chunk of entries of a stream
abbrev pub chunk_of : LabelSet → List Entry → Chunk
chunk_of labels entries = record { labels = labels; lines = map line_of entries }

-- the most entries of a part
abbrev pub most_entries : ℕ
most_entries = 1048576

-- entries of the stream with these labels, by timestamp and then by line
pub record IsRun (stream : LabelSet) (entries : List Entry) : Type 0 where
  pub labels : All (λ entry. entry.labels ≡ stream) entries
  pub rising : IsStrictlySortedBy entry_cmp entries

pub record IsPart (stream : LabelSet) (part : PartView) : Type 0 where
  pub run : IsRun stream part.entries
  pub some : 0 < length part.entries
  pub few : length part.entries ≤ most_entries

pub record IsStream (stream : StreamView) : Type 0 where
  pub sealed : AllByRecursion (IsPart stream.labels) stream.parts
  pub growing : IsRun stream.labels stream.head
  pub few : length stream.head < most_entries

-- notes, parts and streams as numbers, for a store
abbrev pub note_code : Coded Note
note_code = code_by (ℕ × List ℕ) (coded× coded_ℕ (coded_list coded_ℕ)) (λ n. (n.number, n.digest)) (λ p. record { number = p.0; digest = p.1 }) (λ _. refl)

abbrev pub part_code : Coded PartView
part_code = code_by (List Entry × Option Note) (coded× (coded_list entry_type.the_row.coded) (coded_option note_code)) (λ a. (a.entries, a.note)) (λ p. record { entries = p.0; note = p.1 }) (λ _. refl)

abbrev pub stream_code : Coded StreamView
stream_code = code_by (LabelSet × (List PartView × (List Entry × ℕ))) (coded× label_set_code (coded× (coded_list part_code) (coded× (coded_list entry_type.the_row.coded) coded_ℕ)))
    (λ s. (s.labels, (s.parts, (s.head, s.newest))))
    (λ p. record { labels = p.0; parts = p.1.0; head = p.1.1.0; newest = p.1.1.1 })
    (λ _. refl)
