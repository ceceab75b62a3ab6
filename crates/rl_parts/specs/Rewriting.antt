-- Removing covered entries from a stream: what is left of its parts, and under which numbers.
use Rattle.std.specs.Prelude.{◌≡◌, ℕ, ◌-◌, ◌<◌, ◌≤◌, ◌⊎◌, length, not, true, false, Bool, List, [], ◌∷◌, ◌++◌, map, Option, Result, Ok, Err, refl}
use Rattle.std.specs.Coded.{Coded, code_by, coded×, coded_ℕ, coded_list}
use Rattle.std.specs.Option.{MatchOption}
use Rattle.std.specs.List.{All, AllByRecursion, AllZip, filter, flat_map, range_with_len}
use Rattle.std.specs.List.Sorted.{IsPermutation}
use Rattle.rl_labels.specs.LabelSet.{LabelSet}
use Rattle.rl_labels.specs.declared.entry.Entry.{Entry}
use Rattle.rl_chunks.specs.EntryLines.{line_of}
use Rattle.rl_chunks.specs.StoreState.{with_fault}
use Rattle.rl_chunks.specs.declared.chunk.Chunk.{Chunk}
use Rattle.rl_chunks.specs.declared.line.Line.{Line}
use Rattle.rl_parts.specs.ChunksState.{ChunksView}
use Rattle.rl_parts.specs.StreamParts.{PartView, StreamView, IsPart, notes_of, unwritten, stream_code}
use Rattle.rl_parts.specs.StoreUse.{IsKept}
use Rattle.rl_parts.specs.StreamState.{AreSealedUpTo}
use Rattle.rl_parts.specs.Reading.{IsReadAs}
use Rattle.rl_parts.specs.declared.fault.RewriteFault.{RewriteFault}
use Rattle.rl_parts.specs.declared.fault.RewriteFault.TheVariants as rewrites
use Rattle.rl_parts.specs.declared.plan.Change.{Change}
use Rattle.rl_parts.specs.declared.plan.Changes.{Changes}
use Rattle.rl_parts.specs.declared.plan.Change.TheVariants.{Stays, Goes, Becomes}

-- the entries that are not covered
abbrev pub uncovered : (Entry → Bool) → List Entry → List Entry
uncovered covers entries = filter (λ entry. not (covers entry)) entries

-- the entries of parts, part by part
abbrev pub entries_in : List PartView → List Entry
entries_in parts = flat_map (λ part. part.entries) parts

-- the numbers of the parts that a store has
abbrev pub note_numbers : List PartView → List ℕ
note_numbers parts = map (λ note. note.number) (notes_of parts)

-- the lines, as entries of the stream with these labels
pub record AreOfLines (labels : LabelSet) (lines : List Line) (entries : List Entry) : Type 0 where
  pub own : AllByRecursion (λ entry. entry.labels ≡ labels) entries
  pub same : map line_of entries ≡ lines

-- the lines of a chunk that bytes with the digest are, as entries of the stream
abbrev pub AreReadAs : List ℕ → LabelSet → List Entry → Type 0
AreReadAs digest labels entries = (chunk : Chunk) × IsReadAs digest chunk × AreOfLines labels chunk.lines entries

-- no entry is covered, and the part stays; or some are, and the others are left
abbrev pub IsLeftOf : (Entry → Bool) → List Entry → PartView → List PartView → Type 0
IsLeftOf covers entries part left = ((uncovered covers entries ≡ entries) × (left ≡ part ∷ [])) ⊎ ((length (uncovered covers entries) < length entries) × (entries_in left ≡ uncovered covers entries))

-- what is left of a part: of its own entries, if it is in memory; and if a store has it, the part itself where none of its
-- entries is covered, or else of entries that bytes with its digest are
abbrev pub IsLeft : (Entry → Bool) → LabelSet → PartView → List PartView → Type 0
IsLeft covers labels part left = MatchOption part.note ((entries_in left ≡ uncovered covers part.entries) × (notes_of left ≡ []))
    (λ note. (All (λ entry. covers entry ≡ false) part.entries × (left ≡ part ∷ [])) ⊎ ((read : List Entry) × AreReadAs note.digest labels read × IsLeftOf covers read part left))

-- what is left of each part in turn
pub record AreLeft (covers : Entry → Bool) (labels : LabelSet) (old new : List PartView) : Type 0 where
  pub lefts : List (List PartView)
  pub each : AllZip (IsLeft covers labels) old lefts
  pub are : new ≡ flat_map (λ left. left) lefts

-- some numbers stay, the others are gone, and those from the first up to the next are new
pub record AreRenumbered (old : List ℕ) (first next : ℕ) (new gone : List ℕ) : Type 0 where
  pub up : first ≤ next
  pub stay : List ℕ
  pub before : IsPermutation old (stay ++ gone)
  pub now : IsPermutation new (stay ++ range_with_len first (next - first))

-- faults after reads and puts that were refused so: one more where the device failed
abbrev pub rewrite_faults : RewriteFault → ℕ → ℕ
rewrite_faults rewrites.Fault faults = with_fault faults
rewrite_faults rewrites.Damaged faults = faults
rewrite_faults rewrites.NumbersSpent faults = faults
rewrite_faults rewrites.Memory faults = faults

-- and after reads and puts that answered so
abbrev pub after_rewrite : {A : Type 0} → Result A RewriteFault → ℕ → ℕ
after_rewrite (Ok _) faults = faults
after_rewrite (Err fault) faults = rewrite_faults fault faults

-- a stream, what it becomes, and the numbers that are no longer used then
pub record PlanView : Type 0 where
  pub of : StreamView
  pub becomes : StreamView
  pub gone : List ℕ

abbrev pub plan_code : Coded PlanView
plan_code = code_by (StreamView × (StreamView × List ℕ)) (coded× stream_code (coded× stream_code (coded_list coded_ℕ))) (λ p. (p.of, (p.becomes, p.gone))) (λ p. record { of = p.0; becomes = p.1.0; gone = p.1.1 }) (λ _. refl)

-- what a change leaves of a part, and the number that is gone
abbrev pub left_by : PartView → Change → List PartView
left_by part Stays = part ∷ []
left_by part Goes = []
left_by part (Becomes now) = now ∷ []

abbrev pub gone_by : PartView → Change → List ℕ
gone_by part Stays = []
gone_by part Goes = note_numbers (part ∷ [])
gone_by part (Becomes now) = note_numbers (part ∷ [])

-- what becomes of entries in memory
abbrev pub IsChangedHere : (Entry → Bool) → List Entry → Change → Type 0
IsChangedHere covers entries Stays = uncovered covers entries ≡ entries
IsChangedHere covers entries Goes = uncovered covers entries ≡ []
IsChangedHere covers entries (Becomes now) = (now ≡ unwritten (uncovered covers entries)) × (0 < length (uncovered covers entries))

-- the changes carried out on parts in turn
abbrev pub carried : List PartView → List Change → List PartView
carried [] changes = []
carried (part ∷ parts) [] = []
carried (part ∷ parts) (change ∷ changes) = left_by part change ++ carried parts changes

-- a stream whose parts are changed, and that has this head
abbrev pub planned : StreamView → List Change → List Entry → StreamView
planned stream changes head = record { labels = stream.labels; parts = carried stream.parts changes; head = head; newest = stream.newest }

-- parts without their covered entries, with the numbers that are gone. Over an honest store that keeps the old parts all
-- entries are left that are not covered
pub record AreRewritten (covers : Entry → Bool) (labels : LabelSet) (old : List PartView) (before : ChunksView) (new : List PartView) (gone : List ℕ) (after : ChunksView) : Type 0 where
  pub numbers : AreRenumbered (note_numbers old) before.next after.next (note_numbers new) gone
  pub left : AreLeft covers labels old new
  pub sealed : AllByRecursion (IsPart labels) new
  pub fewer : length (entries_in new) ≤ length (entries_in old)
  pub up_to : (top : Option ℕ) → AreSealedUpTo top old → AreSealedUpTo top new
  pub kept : AllByRecursion (IsKept before labels) old → AllByRecursion (IsKept after labels) new
  pub right : before.seen.honest ≡ true → AllByRecursion (IsKept before labels) old → entries_in new ≡ uncovered covers (entries_in old)

-- one part more, with what becomes of it and the number that is gone
pub record IsOneMore (covers : Entry → Bool) (labels : LabelSet) (part : PartView) (before after : ChunksView) (changes now : Changes) : Type 0 where
  pub change : Change
  pub appended : now.of_parts.items ≡ changes.of_parts.items ++ change ∷ []
  pub gone_after : now.gone.items ≡ changes.gone.items ++ gone_by part change
  pub rewritten : AreRewritten covers labels (part ∷ []) before (left_by part change) (gone_by part change) after
