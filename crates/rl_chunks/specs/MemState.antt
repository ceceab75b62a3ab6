-- How a store in memory is seen.
use Rattle.std.specs.Prelude.{true}
use Rattle.std.specs.FinMap.{from_entries}
use Rattle.rl_chunks.specs.StoreState.{Blobs, Seen}
use Rattle.rl_chunks.specs.declared.mem_store.MemStore.{MemStore}

abbrev pub blobs_of : MemStore → Blobs
blobs_of store = from_entries store.blobs.entries

-- it is honest, and no device fails
abbrev pub mem_seen : MemStore → Seen
mem_seen store = record { blobs = blobs_of store; honest = true; reads = store.reads; faults = 0 }
