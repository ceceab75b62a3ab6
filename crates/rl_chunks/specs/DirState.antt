-- How a store in a folder is seen.
use Rattle.std.specs.Prelude.{ℕ, false}
use Rattle.std.specs.FinMap.{empty, insert, remove}
use Rattle.rl_chunks.specs.StoreState.{Blobs, Seen}
use Rattle.rl_chunks.specs.declared.history.History.{History}
use Rattle.rl_chunks.specs.declared.history.History.TheFolds.{fold-History}
use Rattle.rl_chunks.specs.declared.history.History.TheOpen as layers
use Rattle.rl_chunks.specs.declared.history.History.TheOpen.{History-F}

-- what one call leaves of the bytes before it
abbrev pub after_one : History-F Blobs → Blobs
after_one layers.Nothing = empty
after_one (layers.Put number bytes before) = insert before.value number bytes.value
after_one (layers.Removed number before) = remove before.value number

-- the bytes that the calls leave
abbrev pub blobs_in : History → Blobs
blobs_in = fold-History Blobs after_one

-- its numbers have what was put; what files hold it does not say
abbrev pub dir_seen : History → ℕ → ℕ → Seen
dir_seen history reads faults = record { blobs = blobs_in history; honest = false; reads = reads; faults = faults }
