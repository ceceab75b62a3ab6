-- What a stream keeps beside what is seen of it, and where an entry goes in its head.
use Rattle.std.specs.Prelude.{◌≡◌, ℕ, ◌≤◌, List, length, Option}
use Rattle.std.specs.Option.{unwrap_or}
use Rattle.std.specs.List.{All, AllByRecursion, AllWithin, insert}
use Rattle.std.specs.declared.cmp.Ordering.TheVariants.{Less, Greater}
use Rattle.rl_labels.specs.EntryOrder.{entry_cmp}
use Rattle.rl_labels.specs.declared.entry.Entry.{Entry}
use Rattle.rl_parts.specs.StreamParts.{PartView, StreamView, IsStream}

-- no sealed entry is newer
abbrev pub AreSealedUpTo : Option ℕ → List PartView → Type 0
AreSealedUpTo newest parts = AllByRecursion (λ part. All (λ entry. entry.timestamp ≤ unwrap_or newest 0) part.entries) parts

pub record IsInOrder (stream : StreamView) (sealed_to : Option ℕ) : Type 0 where
  pub parts : IsStream stream
  pub up_to : AreSealedUpTo sealed_to stream.parts

-- the entry belongs at the index: the entries before it are less, and those from it on greater
pub record BelongsAt (entries : List Entry) (entry : Entry) (index : ℕ) : Type 0 where
  pub within : index ≤ length entries
  pub before : AllWithin (λ other. entry_cmp other entry ≡ Less) entries 0 index
  pub after : AllWithin (λ other. entry_cmp other entry ≡ Greater) entries index (length entries)

-- the entry was put where it belongs
pub record IsPut (old : List Entry) (entry : Entry) (new : List Entry) : Type 0 where
  pub index : ℕ
  pub belongs : BelongsAt old entry index
  pub is : new ≡ insert old index entry
