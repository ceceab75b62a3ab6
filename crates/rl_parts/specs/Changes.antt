-- What a stream becomes when it takes an entry, seals its head, or writes parts to a store.
use Rattle.std.specs.Prelude.{◌≡◌, ℕ, ◌+◌, ◌≤◌, ◌==◌, nat_lt, if◌then◌else◌, List, [], ◌∷◌, ◌++◌, map, length, Option, None, Some}
use Rattle.std.specs.Option.{is_none}
use Rattle.std.specs.List.{insert, filter, range_with_len}
use Rattle.rl_labels.specs.declared.entry.Entry.{Entry}
use Rattle.rl_parts.specs.StreamParts.{Note, PartView, StreamView, unwritten, notes_of}

-- the entry was put at some index
pub record IsInserted (old : List Entry) (entry : Entry) (new : List Entry) : Type 0 where
  pub index : ℕ
  pub within : index ≤ length old
  pub is : new ≡ insert old index entry

-- a stream of one entry, which is sealed where a part has no more than one
pub record IsStarted (most : ℕ) (entry : Entry) (stream : StreamView) : Type 0 where
  pub parts : stream.parts ≡ (if nat_lt 1 most then [] else unwritten (entry ∷ []) ∷ [])
  pub head : stream.head ≡ (if nat_lt 1 most then entry ∷ [] else [])

-- parts that no store has may have come after the old ones
pub record AreSealed (old new : List PartView) : Type 0 where
  pub fresh : List PartView
  pub appended : new ≡ old ++ fresh
  pub unwritten : notes_of fresh ≡ []

-- the parts of a stream whose head, if it has an entry, becomes one
abbrev pub sealed_parts : StreamView → List PartView
sealed_parts stream = if length stream.head == 0 then stream.parts else stream.parts ++ unwritten stream.head ∷ []

-- the entry was put into the head, which becomes a part where it has `most` entries by now
pub record IsHeld (most : ℕ) (old : StreamView) (entry : Entry) (new : StreamView) : Type 0 where
  pub index : ℕ
  pub within : index ≤ length old.head
  pub parts : new.parts ≡ (if nat_lt (length old.head + 1) most then old.parts else old.parts ++ unwritten (insert old.head index entry) ∷ [])
  pub head : new.head ≡ (if nat_lt (length old.head + 1) most then insert old.head index entry else [])

-- how many parts have no note
abbrev pub unwritten_count : List PartView → ℕ
unwritten_count parts = length (filter (λ part. is_none part.note) parts)

-- a part's own note, else the next one
abbrev pub own_or_next : Option Note → List Note → Option Note
own_or_next (Some own) notes = Some own
own_or_next None [] = None
own_or_next None (note ∷ notes) = Some note

-- the notes that are left for the parts after it
abbrev pub after_next : Option Note → List Note → List Note
after_next (Some own) notes = notes
after_next None [] = []
after_next None (note ∷ notes) = notes

-- the parts that have no note get these in turn
abbrev pub with_notes : List PartView → List Note → List PartView
with_notes [] notes = []
with_notes (part ∷ parts) notes = record { entries = part.entries; note = own_or_next part.note notes } ∷ with_notes parts (after_next part.note notes)

-- parts without a note were given one, in turn and without a gap, with the numbers from the first up to the next
pub record AreNoted (old : List PartView) (first : ℕ) (new : List PartView) (next : ℕ) : Type 0 where
  pub notes : List Note
  pub few : length notes ≤ unwritten_count old
  pub given : new ≡ with_notes old notes
  pub numbers : map (λ note. note.number) notes ≡ range_with_len first (length notes)
  pub many : next ≡ first + length notes
