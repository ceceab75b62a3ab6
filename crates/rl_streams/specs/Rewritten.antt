-- Streams without their covered entries: how that is planned for all of them, and what it makes of them.
use Rattle.std.specs.Prelude.{◌≡◌, ℕ, ◌+◌, ◌<◌, ◌≤◌, ◌⊎◌, nat_eq, not, Bool, true, false, List, [], ◌∷◌, length, map, zero, suc, None}
use Rattle.std.specs.FinMap.{retain_keys}
use Rattle.std.specs.FinMap as finite
use Rattle.std.specs.List.{All, AllByRecursion, AllZip, Contains, flat_map, list_any}
use Rattle.std.specs.Map.{values_of}
use Rattle.rl_labels.specs.EntryOrder.{EntrySet}
use Rattle.rl_labels.specs.declared.entry.Entry.{Entry}
use Rattle.rl_chunks.specs.StoreState.{with_fault}
use Rattle.rl_parts.specs.ChunksState.{ChunksView}
use Rattle.rl_parts.specs.StreamParts.{StreamView, entries_of}
use Rattle.rl_parts.specs.StoreUse.{AreKept, FaultsRise, Grown}
use Rattle.rl_parts.specs.Rewriting.{AreLeft, AreRenumbered, PlanView, note_numbers, uncovered}
use Rattle.rl_streams.specs.StreamRows.{Row, numbers_in, AreGiven}
use Rattle.rl_streams.specs.StreamsState.{StreamsView}

-- the entries of a set that are not covered
abbrev pub without : (Entry → Bool) → EntrySet → EntrySet
without covers held = retain_keys held (λ entry. not (covers entry))

-- a call that changes nothing that is held, and may have put bytes that no part has under numbers from the next one on
pub record Stays (old new : StreamsView) : Type 0 where
  pub limits : new.limits ≡ old.limits
  pub held : new.held ≡ old.held
  pub newest : new.newest ≡ old.newest
  pub next : old.next ≤ new.next
  pub loose : new.loose ≡ old.loose
  pub unwritten : new.unwritten ≡ old.unwritten
  pub rows : new.rows ≡ old.rows
  pub seen : Grown old.seen old.next (new.next + 1) new.seen

-- the number of a part that was given up
abbrev pub IsGone : List Row → List Row → ℕ → Type 0
IsGone old new number = Contains (numbers_in old) number × (Contains (numbers_in new) number → ⊥)

-- so many faults more
abbrev pub with_faults : ℕ → ℕ → ℕ
with_faults zero faults = faults
with_faults (suc more) faults = with_faults more (with_fault faults)

-- the number is one of these
abbrev pub is_one_of : List ℕ → ℕ → Bool
is_one_of numbers number = list_any (nat_eq number) numbers

-- a call that removes entries: the newest timestamps stay. What the store had of parts that were given up is removed, but for what
-- it refused to remove, each with one fault more; and nothing else changes below the numbers that were given. Each part has its number
-- from before, or one of these
pub record Rewrites (old new : StreamsView) : Type 0 where
  pub limits : new.limits ≡ old.limits
  pub newest : new.newest ≡ old.newest
  pub next : old.next ≤ new.next
  pub honest : new.seen.honest ≡ old.seen.honest
  pub faults : FaultsRise old.seen.faults new.seen.faults
  pub refused : List ℕ
  pub counted : new.seen.faults ≡ with_faults (length refused) old.seen.faults
  pub removed : (number : ℕ) → IsGone old.rows new.rows number → is_one_of refused number ≡ false → finite.get new.seen.blobs number ≡ None
  pub others : (number : ℕ) → (number < old.next) ⊎ (new.next ≤ number) → (IsGone old.rows new.rows number → ⊥) → finite.get new.seen.blobs number ≡ finite.get old.seen.blobs number
  pub given : AreGiven (numbers_in old.rows) old.next new.next (numbers_in new.rows)

-- what each plan keeps of its stream
pub record IsSound (plan : PlanView) : Type 0 where
  pub labels : plan.becomes.labels ≡ plan.of.labels
  pub newest : plan.becomes.newest ≡ plan.of.newest
  pub own : All (λ entry. entry.labels ≡ plan.of.labels) (entries_of plan.becomes)
  pub fewer : length (entries_of plan.becomes) ≤ length (entries_of plan.of)

-- what is left of a stream, over any store: of each part according to its bytes, and of the head
pub record IsLeftIn (covers : Entry → Bool) (old new : StreamView) : Type 0 where
  pub parts : AreLeft covers old.labels old.parts new.parts
  pub head : new.head ≡ uncovered covers old.head

-- what is left of each stream in turn, under its labels
abbrev pub AreLeftIn : (Entry → Bool) → List Row → List Row → Type 0
AreLeftIn covers old new = AllZip (λ row now. (now.0 ≡ row.0) × IsLeftIn covers row.1 now.1) old new

-- the numbers of what plans are of, of what they make of it, and those that are gone
abbrev pub numbers_before : List PlanView → List ℕ
numbers_before plans = flat_map (λ plan. note_numbers plan.of.parts) plans

abbrev pub numbers_after : List PlanView → List ℕ
numbers_after plans = flat_map (λ plan. note_numbers plan.becomes.parts) plans

abbrev pub numbers_gone : List PlanView → List ℕ
numbers_gone plans = flat_map (λ plan. plan.gone) plans

-- plans that were made in turn. Over an honest store that keeps the streams they leave what is not covered
pub record ArePlanned (covers : Entry → Bool) (before : ChunksView) (plans : List PlanView) (after : ChunksView) : Type 0 where
  pub sound : AllByRecursion IsSound plans
  pub left : AllByRecursion (λ plan. IsLeftIn covers plan.of plan.becomes) plans
  pub numbers : AreRenumbered (numbers_before plans) before.next after.next (numbers_after plans) (numbers_gone plans)
  pub kept : AllByRecursion (λ plan. AreKept before plan.of) plans → AllByRecursion (λ plan. AreKept after plan.becomes) plans
  pub right : before.seen.honest ≡ true → AllByRecursion (λ plan. AreKept before plan.of) plans → AllByRecursion (λ plan. entries_of plan.becomes ≡ uncovered covers (entries_of plan.of)) plans

-- the plans are those of the rows
abbrev pub AreOf : List Row → List PlanView → Type 0
AreOf rows plans = map (λ plan. plan.of) plans ≡ values_of rows

-- the rows with the plans carried out
abbrev pub rewritten : List Row → List PlanView → List Row
rewritten [] plans = []
rewritten (row ∷ rows) [] = row ∷ rows
rewritten (row ∷ rows) (plan ∷ plans) = (row.0, plan.becomes) ∷ rewritten rows plans

-- what removals of these numbers leave: nothing under each, but for those that were refused
pub record AreRemoved (old : ChunksView) (numbers : List ℕ) (new : ChunksView) : Type 0 where
  pub next : new.next ≡ old.next
  pub honest : new.seen.honest ≡ old.seen.honest
  pub faults : FaultsRise old.seen.faults new.seen.faults
  pub refused : List ℕ
  pub counted : new.seen.faults ≡ with_faults (length refused) old.seen.faults
  pub gone : (number : ℕ) → is_one_of numbers number ≡ true → is_one_of refused number ≡ false → finite.get new.seen.blobs number ≡ None
  pub others : (number : ℕ) → is_one_of numbers number ≡ false → finite.get new.seen.blobs number ≡ finite.get old.seen.blobs number
