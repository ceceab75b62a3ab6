-- What is read of a stream: the entries of a range of time, and whether a part has to be read for it.
use Rattle.std.specs.Prelude.{ℕ, ◌<◌, nat_le, Bool, ◌&&◌, ◌≡◌, ◌⊎◌, List, [], ◌++◌, map, if◌then◌else◌, Some, IfSome}
use Rattle.std.specs.Option.{is_none, MatchOption}
use Rattle.std.specs.List.{All, AllByRecursion, AllZip, Contains, filter, flat_map, fold}
use Rattle.sha2.specs.Sha256.{sha256}
use Rattle.rl_labels.specs.LabelSet.{LabelSet}
use Rattle.rl_labels.specs.declared.entry.Entry.{Entry}
use Rattle.rl_chunks.specs.EntryLines.{line_of}
use Rattle.rl_chunks.specs.declared.line.Line.{Line}
use Rattle.rl_chunks.specs.ChunkText.{IsChunkText}
use Rattle.rl_chunks.specs.declared.chunk.Chunk.{Chunk}
use Rattle.rl_parts.specs.StreamParts.{Note, PartView, StreamView}

-- both ends are in the range
abbrev pub is_in_range : ℕ → ℕ → Entry → Bool
is_in_range from to entry = nat_le from entry.timestamp && nat_le entry.timestamp to

-- an entry as it is visited
abbrev pub visited : Entry → LabelSet × Line
visited entry = (entry.labels, line_of entry)

-- the entries of the range, as they are visited
abbrev pub visited_in_range : ℕ → ℕ → List Entry → List (LabelSet × Line)
visited_in_range from to entries = map visited (filter (is_in_range from to) entries)

-- lines of the range, as they are visited with labels
abbrev pub lines_in_range : LabelSet → ℕ → ℕ → List Line → List (LabelSet × Line)
lines_in_range labels from to lines = map (λ line. (labels, line)) (filter (λ line. nat_le from line.timestamp && nat_le line.timestamp to) lines)

-- the entries are all before the range, or all after it
abbrev pub IsApart : ℕ → ℕ → List Entry → Type 0
IsApart from to entries = All (λ entry. entry.timestamp < from) entries ⊎ All (λ entry. to < entry.timestamp) entries

-- no note, or entries that are all apart
abbrev pub IsOutside : ℕ → ℕ → PartView → Type 0
IsOutside from to part = IfSome part.note (λ _. IsApart from to part.entries)

-- no part that a store has reaches into the range
abbrev pub NoneReaches : ℕ → ℕ → StreamView → Type 0
NoneReaches from to stream = AllByRecursion (IsOutside from to) stream.parts

-- the entries of a part that stand in memory, and those that stand in a store alone
abbrev pub in_memory : PartView → List Entry
in_memory part = if is_none part.note then part.entries else []

abbrev pub in_store : PartView → List Entry
in_store part = if is_none part.note then [] else part.entries

-- the entries of a stream that stand in memory
abbrev pub entries_here : StreamView → List Entry
entries_here stream = flat_map in_memory stream.parts ++ stream.head

-- bytes with the digest are the chunk
abbrev pub IsReadAs : List ℕ → Chunk → Type 0
IsReadAs digest chunk = (bytes : List ℕ) × IsChunkText bytes chunk × (sha256 bytes ≡ digest)

-- a store has no such entry in the part: it is none of its entries, or bytes with the digest are a chunk without the line
abbrev pub IsWithout : Entry → PartView → Type 0
IsWithout entry part = IfSome part.note (λ note. (Contains part.entries entry → ⊥) ⊎ ((chunk : Chunk) × IsReadAs note.digest chunk × (Contains chunk.lines (line_of entry) → ⊥)))

-- bytes with the digest are a chunk with the line
abbrev pub IsWith : Entry → PartView → Type 0
IsWith entry part = (note : Note) × (part.note ≡ Some note) × ((chunk : Chunk) × IsReadAs note.digest chunk × Contains chunk.lines (line_of entry))

-- over any store: the entry is in memory, or bytes with the digest of a part are a chunk with its line
abbrev pub IsFoundIn : Entry → StreamView → Type 0
IsFoundIn entry stream = Contains (entries_here stream) entry ⊎ ((part : PartView) × Contains stream.parts part × IsWith entry part)

-- over any store: it is not in memory, and no part that a store has is with it
abbrev pub IsMissingIn : Entry → StreamView → Type 0
IsMissingIn entry stream = (Contains (entries_here stream) entry → ⊥) × AllByRecursion (IsWithout entry) stream.parts

-- what is visited of a part: its own entries of the range, or those lines of a chunk that bytes with the digest are
abbrev pub IsPiece : LabelSet → ℕ → ℕ → PartView → List (LabelSet × Line) → Type 0
IsPiece labels from to part piece = MatchOption part.note (piece ≡ visited_in_range from to part.entries)
    (λ note. (IsApart from to part.entries × (piece ≡ [])) ⊎ ((chunk : Chunk) × IsReadAs note.digest chunk × (piece ≡ lines_in_range labels from to chunk.lines)))

-- a piece of each part in turn was visited, and this is what the visitor became by them
pub record IsVisited {T : Type 0} (visiting : T → LabelSet × Line → T) (labels : LabelSet) (from to : ℕ) (parts : List PartView) (old new : T) : Type 0 where
  pub pieces : List (List (LabelSet × Line))
  pub each : AllZip (IsPiece labels from to) parts pieces
  pub becomes : new ≡ fold visiting old (flat_map (λ piece. piece) pieces)
