-- Journals and histories, merged from what callers came away with.
use Rattle.std.specs.Prelude.{◌≡◌, Bool, true, false, ℕ, suc, List, [], ◌∷◌, length, slice_index_or}
use Rattle.sha2.specs.Sha256.{sha256}
use Rattle.rl_records.specs.RecordBytes.{digest_of}
use Rattle.rl_records.specs.declared.record.Record.{Record}
use Rattle.rl_sinks.specs.Texts.{tail_text}
use Rattle.rl_world.specs.declared.item.Item.{Item}
use Rattle.rl_world.specs.declared.item.Item.TheVariants as kinds
use Rattle.rl_world.specs.declared.step.Committed.{Committed}
use Rattle.rl_audit.specs.Claims.{AreClaimed, Place}
use Rattle.rl_audit.specs.declared.receipt.Note.{Note}
use Rattle.rl_audit.specs.declared.receipt.Note.TheVariants as notes
use Rattle.rl_audit.specs.declared.receipt.Receipt.{Receipt}

-- RECEIPTS

-- the receipt of a shard's record at a place
abbrev pub receipt_of : (shard place : ℕ) → Record → Receipt
receipt_of shard place it = record { shard = shard; place = place; digest = digest_of it }

-- the place that a receipt names
abbrev pub place_of : Receipt → Place
place_of receipt = (receipt.shard, receipt.place)

-- a receipt has a record's digest
abbrev pub HasDigest : Receipt → Record → Type 0
HasDigest receipt it = receipt.digest ≡ digest_of it

-- a receipt has this digest
abbrev pub IsOf : Receipt → List ℕ → Type 0
IsOf receipt digest = receipt.digest ≡ digest

-- the receipts of all callers name each record of the journals once and nothing else, each with its digest, and in each journal the
-- places of one caller rise
abbrev pub AreMerged : (journals : List (List Record)) → List (List Receipt) → Type 0
AreMerged journals callers = AreClaimed journals place_of HasDigest callers

-- NOTES

-- the note of an evaluation that was committed
abbrev pub note_of : (group : ℕ) → Committed → Note
note_of group committed = notes.Evaluated group committed.number (sha256 (tail_text committed.evaluation))

abbrev pub is_evaluated : Item → Bool
is_evaluated (kinds.Evaluated evaluation) = true
is_evaluated (kinds.Edited to) = false

-- where evaluations stand among items, from one on
abbrev pub evaluation_indices : (first : ℕ) → List Item → List ℕ
evaluation_indices first [] = []
evaluation_indices first (kinds.Edited to ∷ items) = evaluation_indices (suc first) items
evaluation_indices first (kinds.Evaluated evaluation ∷ items) = first ∷ evaluation_indices (suc first) items

-- the item that a note names: an evaluation by its number among the evaluations, an edit by its index
abbrev pub index_of : List Item → Note → ℕ
index_of items (notes.Evaluated group number digest) = slice_index_or (evaluation_indices 0 items) number (length items)
index_of items (notes.Edited group index to) = index

abbrev pub group_of : Note → ℕ
group_of (notes.Evaluated group number digest) = group
group_of (notes.Edited group index to) = group

abbrev pub item_of : (histories : List (List Item)) → Note → Place
item_of histories note = (group_of note, index_of (slice_index_or histories (group_of note) []) note)

-- a note has the digest of what a tail is given of an evaluation, or the group as it was edited
abbrev pub Describes : Note → Item → Type 0
Describes (notes.Evaluated group number digest) (kinds.Evaluated evaluation) = digest ≡ sha256 (tail_text evaluation)
Describes (notes.Edited group index to) (kinds.Edited next) = to ≡ next
Describes note item = ⊥

-- the notes of all callers name each evaluation and each edit of the histories once and nothing else, each as it was, and in each
-- history the items of one caller rise
abbrev pub AreNoted : (histories : List (List Item)) → List (List Note) → Type 0
AreNoted histories callers = AreClaimed histories (item_of histories) Describes callers
