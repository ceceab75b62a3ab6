-- A store as contracts see it, and what a call does to it.
use Rattle.std.specs.Prelude.{◌≡◌, ℕ, ◌+◌, ◌-◌, ◌%◌, ◌^◌, min, Bool, List, Result, Ok, Err}
use Rattle.std.specs.FinMap as map
use Rattle.std.specs.FinMap.{FinMap}
use Rattle.std.specs.Ordering.{nat_cmp}
use Rattle.rl_chunks.specs.declared.store.StoreFault.{StoreFault}
use Rattle.rl_chunks.specs.declared.store.StoreFault.TheVariants.{Fault, Memory}

-- bytes by number
abbrev pub Blobs : Type 0
Blobs = FinMap nat_cmp (List ℕ)

-- what it should have, whether it answers that, how often it was read, and how often its device failed
pub record Seen : Type 0 where
  pub blobs : Blobs
  pub honest : Bool
  pub reads : ℕ
  pub faults : ℕ

-- the greatest number of 64 bits
abbrev pub greatest : ℕ
greatest = 2 ^ 64 - 1

-- one fault more; they stop at the greatest
abbrev pub with_fault : ℕ → ℕ
with_fault faults = min (faults + 1) greatest

-- faults after a call that answered so: one more where the device failed
abbrev pub faults_after : {A : Type 0} → Result A StoreFault → ℕ → ℕ
faults_after (Ok _) faults = faults
faults_after (Err Fault) faults = with_fault faults
faults_after (Err Memory) faults = faults

-- reads are counted from the greatest to 0 again
abbrev pub next_read : ℕ → ℕ
next_read reads = (reads + 1) % 2 ^ 64

-- what a call that is no read leaves
pub record KeepsReads (old new : Seen) : Type 0 where
  pub honest : new.honest ≡ old.honest
  pub reads : new.reads ≡ old.reads

-- what a read does, with any answer
pub record IsRead (old new : Seen) : Type 0 where
  pub blobs : new.blobs ≡ old.blobs
  pub honest : new.honest ≡ old.honest
  pub reads : new.reads ≡ next_read old.reads

-- every other number has what it had
abbrev pub LeavesOthers : ℕ → Blobs → Blobs → Type 0
LeavesOthers number old new = (other : ℕ) → (other ≡ number → ⊥) → map.get new other ≡ map.get old other
