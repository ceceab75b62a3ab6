-- How a store whose answers are spoilt is seen, and what spoils an answer.
use Rattle.std.specs.Prelude.{ℕ, ◌+◌, ◌%◌, ◌==◌, ◌&&◌, List, [], ◌∷◌, length, take, Option, Some, None, slice_index, slice_set, nat_lt, if◌then◌else◌}
use Rattle.std.specs.Option.{option_map}
use Rattle.std.specs.FinMap.{get}
use Rattle.rl_chunks.specs.StoreState.{Blobs, Seen}
use Rattle.rl_chunks.specs.declared.spoil_store.Spoil.{Spoil}
use Rattle.rl_chunks.specs.declared.spoil_store.Spoil.TheVariants.{Cut, Flip, Swap, Gone}

-- the bytes of the other store, its own reads; honest where nothing is spoilt
abbrev pub spoil_seen : Seen → List (ℕ × Spoil) → ℕ → Seen
spoil_seen inner plan reads = record { blobs = inner.blobs; honest = length plan == 0 && inner.honest; reads = reads; faults = inner.faults }

-- how the plan spoils a read: the first of its entries for it
abbrev pub spoil_at : List (ℕ × Spoil) → ℕ → Option Spoil
spoil_at [] read = None
spoil_at (planned ∷ plan) read = if planned.0 == read then Some planned.1 else spoil_at plan read

-- one byte plus 1, from the greatest to 0
abbrev pub flipped : ℕ → List ℕ → List ℕ
flipped offset bytes = if nat_lt offset (length bytes) then slice_set bytes offset ((slice_index bytes offset + 1) % 256) else bytes

-- what a read answers of these bytes
abbrev pub spoilt : Option Spoil → Blobs → ℕ → Option (List ℕ)
spoilt None blobs number = get blobs number
spoilt (Some (Cut len)) blobs number = option_map (take len) (get blobs number)
spoilt (Some (Flip offset)) blobs number = option_map (flipped offset) (get blobs number)
spoilt (Some (Swap other)) blobs number = get blobs other
spoilt (Some Gone) blobs number = None
