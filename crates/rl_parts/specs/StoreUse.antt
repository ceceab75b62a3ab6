-- What the calls of a stream do to a store, and what they rest on of it.
use Rattle.std.specs.Prelude.{◌≡◌, ℕ, ◌+◌, ◌<◌, ◌≤◌, ◌⊎◌, min, true, Some, Result, Ok, Err, IfSome}
use Rattle.std.specs.List.{AllByRecursion}
use Rattle.std.specs.FinMap as map
use Rattle.sha2.specs.Sha256.{sha256}
use Rattle.rl_labels.specs.LabelSet.{LabelSet}
use Rattle.rl_chunks.specs.ChunkText.{chunk_text}
use Rattle.rl_chunks.specs.ChunkReading.{read_chunk}
use Rattle.rl_chunks.specs.StoreState.{Seen, greatest, with_fault}
use Rattle.rl_chunks.specs.declared.chunk.Chunk.{Chunk}
use Rattle.rl_chunks.specs.declared.format.Format.TheVariants.{Short}
use Rattle.rl_parts.specs.ChunksState.{ChunksView}
use Rattle.rl_parts.specs.StreamParts.{Note, PartView, StreamView, chunk_of}
use Rattle.rl_parts.specs.declared.fault.ReadFault.{ReadFault}
use Rattle.rl_parts.specs.declared.fault.ReadFault.TheVariants as reads
use Rattle.rl_parts.specs.declared.fault.FlushFault.{FlushFault}
use Rattle.rl_parts.specs.declared.fault.FlushFault.TheVariants as flushes

-- faults never go down; past the greatest number none differs from another
abbrev pub FaultsRise : ℕ → ℕ → Type 0
FaultsRise old new = min old greatest ≤ min new greatest

-- a fault was counted meanwhile, or no more can be counted
abbrev pub FaultCame : ℕ → ℕ → Type 0
FaultCame old new = (min old greatest < min new greatest) ⊎ (greatest ≤ new)

-- what reads leave
pub record Looked (old new : Seen) : Type 0 where
  pub blobs : new.blobs ≡ old.blobs
  pub honest : new.honest ≡ old.honest

-- what puts under numbers from the first on, and below the end, leave
pub record Grown (old : Seen) (first end : ℕ) (new : Seen) : Type 0 where
  pub honest : new.honest ≡ old.honest
  pub others : (number : ℕ) → (number < first) ⊎ (end ≤ number) → map.get new.blobs number ≡ map.get old.blobs number

-- puts under the numbers from the first up to the next; one that was refused may have lost what the next number has
abbrev pub IsGrown : {A E : Type 0} → Result A E → Seen → ℕ → ℕ → Seen → Type 0
IsGrown (Ok _) old first next new = Grown old first next new
IsGrown (Err _) old first next new = Grown old first (next + 1) new

-- what calls leave that only read
pub record Reads (old new : ChunksView) : Type 0 where
  pub seen : Looked old.seen new.seen
  pub next : new.next ≡ old.next

-- what puts under the numbers from the next one on, and below the end, leave
pub record Puts (old : ChunksView) (end : ℕ) (new : ChunksView) : Type 0 where
  pub up : old.next ≤ new.next
  pub seen : Grown old.seen old.next end new.seen

-- where none was refused they end at the number that is next by now; one that was refused may have lost what that has
abbrev pub ArePut : {A E : Type 0} → Result A E → ChunksView → ChunksView → Type 0
ArePut (Ok _) old new = Puts old new.next new
ArePut (Err _) old new = Puts old (new.next + 1) new

-- what chunks kept they keep: each number that was given has what it had
pub record Keeps (old new : ChunksView) : Type 0 where
  pub up : old.next ≤ new.next
  pub honest : new.seen.honest ≡ old.seen.honest
  pub blobs : (number : ℕ) → number < old.next → map.get new.seen.blobs number ≡ map.get old.seen.blobs number

-- a note of this chunk, under a number that was given: its bytes are read as it, and an honest store has them there
pub record IsNoteOf (chunks : ChunksView) (chunk : Chunk) (note : Note) : Type 0 where
  pub given : note.number < chunks.next
  pub digest : note.digest ≡ sha256 (chunk_text Short chunk)
  pub read : read_chunk (chunk_text Short chunk) ≡ Ok chunk
  pub kept : chunks.seen.honest ≡ true → map.get chunks.seen.blobs note.number ≡ Some (chunk_text Short chunk)

-- where the part has a note, the chunks keep the part
abbrev pub IsKept : ChunksView → LabelSet → PartView → Type 0
IsKept chunks labels part = IfSome part.note (IsNoteOf chunks (chunk_of labels part.entries))

-- the chunks keep the parts that have a note
abbrev pub AreKept : ChunksView → StreamView → Type 0
AreKept chunks stream = AllByRecursion (IsKept chunks stream.labels) stream.parts

-- over an honest store: the answer is right, or the device failed or memory ran out, and nothing is damaged
abbrev pub Right : {A : Type 0} → Result A ReadFault → (A → Type 0) → Type 0
Right (Ok answer) P = P answer
Right (Err reads.Damaged) P = ⊥
Right (Err reads.Fault) P = Unit {0}
Right (Err reads.Memory) P = Unit {0}

-- faults after reads that were refused so: one more where the device failed
abbrev pub read_faults : ReadFault → ℕ → ℕ
read_faults reads.Fault faults = with_fault faults
read_faults reads.Damaged faults = faults
read_faults reads.Memory faults = faults

-- and after reads that answered so
abbrev pub after_read : {A : Type 0} → Result A ReadFault → ℕ → ℕ
after_read (Ok _) faults = faults
after_read (Err fault) faults = read_faults fault faults

-- the same of puts
abbrev pub flush_faults : FlushFault → ℕ → ℕ
flush_faults flushes.Fault faults = with_fault faults
flush_faults flushes.NumbersSpent faults = faults
flush_faults flushes.Memory faults = faults

abbrev pub after_flush : {A : Type 0} → Result A FlushFault → ℕ → ℕ
after_flush (Ok _) faults = faults
after_flush (Err fault) faults = flush_faults fault faults
