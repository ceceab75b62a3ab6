-- All streams of a shard as one set, and what the calls make of it.
use Rattle.std.specs.Prelude.{◌≡◌, ℕ, ◌+◌, ◌*◌, ◌<◌, ◌≤◌, nat_lt, Bool, true, false, List, [], length, Option, None, Some, Result, Ok, Err, if◌then◌else◌, refl}
use base.Stored.{coded_unit}
use Rattle.std.specs.Coded.{Coded, code_by, coded×, coded_ℕ, coded_list}
use Rattle.std.specs.FinMap.{FinMap, insert, empty, len, contains_key, code}
use Rattle.rl_labels.specs.LabelSet.{label_set_code}
use Rattle.rl_labels.specs.LabelText.{label_set_cmp}
use Rattle.rl_labels.specs.EntryOrder.{EntrySet}
use Rattle.rl_labels.specs.declared.entry.Entry.{Entry}
use Rattle.rl_labels.specs.declared.limits.Limits.{Limits}
use Rattle.rl_labels.specs.contracts.entry.Entry as entry_type
use Rattle.rl_labels.specs.contracts.limits.Limits as limits_type
use Rattle.rl_chunks.specs.StoreState.{Seen}
use Rattle.rl_parts.specs.ChunksState.{ChunksView, seen_code}
use Rattle.rl_parts.specs.StreamParts.{stream_code}
use Rattle.rl_parts.specs.StoreUse.{Looked, read_faults}
use Rattle.rl_parts.specs.declared.fault.ReadFault.TheVariants as reads
use Rattle.rl_streams.specs.HeldSet.{set_of}
use Rattle.rl_streams.specs.StreamRows.{Row, joined, by_stream, newest_in, loose_in, unwritten_in, newest_map, newest_at, numbers_in, raised, AreGiven, AreStreams}
use Rattle.rl_streams.specs.RowSteps.{IsTakenBy}
use Rattle.rl_streams.specs.declared.refusal.AddRefusal.{AddRefusal}
use Rattle.rl_streams.specs.declared.refusal.AddRefusal.TheVariants.{Expired, TooFarBehind, Full, Read}

pub record StreamsView : Type 0 where
  pub limits : Limits
  -- the entries that the streams hold
  pub held : EntrySet
  -- the newest timestamp that each stream ever had, in nanoseconds
  pub newest : FinMap label_set_cmp ℕ
  -- the store
  pub seen : Seen
  -- the next number of a chunk
  pub next : ℕ
  -- how many entries are not sealed yet
  pub loose : ℕ
  -- how many sealed parts the store does not have
  pub unwritten : ℕ
  -- the streams, in the order in which they are visited
  pub rows : List Row

-- streams as numbers
abbrev pub streams_code : Coded StreamsView
streams_code = code_by (Limits × (EntrySet × (FinMap label_set_cmp ℕ × (Seen × (ℕ × (ℕ × (ℕ × List Row)))))))
    (coded× limits_type.the_row.coded (coded× (code entry_type.the_row.coded coded_unit) (coded× (code label_set_code coded_ℕ) (coded× seen_code (coded× coded_ℕ (coded× coded_ℕ (coded× coded_ℕ (coded_list (coded× label_set_code stream_code)))))))))
    (λ s. (s.limits, (s.held, (s.newest, (s.seen, (s.next, (s.loose, (s.unwritten, s.rows))))))))
    (λ p. record { limits = p.0; held = p.1.0; newest = p.1.1.0; seen = p.1.1.1.0; next = p.1.1.1.1.0; loose = p.1.1.1.1.1.0; unwritten = p.1.1.1.1.1.1.0; rows = p.1.1.1.1.1.1.1 })
    (λ _. refl)

-- streams as they are seen
abbrev pub view_of : Limits → List Row → ChunksView → StreamsView
view_of limits rows chunks = record { limits = limits; held = set_of (joined rows); newest = newest_map (newest_in rows); seen = chunks.seen; next = chunks.next; loose = length (loose_in rows); unwritten = length (unwritten_in rows); rows = rows }

-- their entries stream by stream, in the order in which they are visited
abbrev pub order_of : StreamsView → List (List Entry)
order_of streams = by_stream streams.rows

-- what is always true of them, and of the count of entries
pub record IsWhole (limits : Limits) (rows : List Row) (chunks : ChunksView) (count : ℕ) : Type 0 where
  pub streams : AreStreams rows chunks
  pub counted : count ≡ length (joined rows)
  pub room : count ≤ limits.entries

-- no streams
abbrev pub no_streams : Limits → Seen → StreamsView
no_streams limits seen = record { limits = limits; held = empty; newest = empty; seen = seen; next = limits.first_blob; loose = 0; unwritten = 0; rows = [] }

-- half of a second, in nanoseconds
abbrev pub half_second : ℕ
half_second = 500000000

-- older than a timestamp by more than half of the age of a chunk
abbrev pub is_far_behind : Limits → Entry → ℕ → Bool
is_far_behind limits entry newest = nat_lt (entry.timestamp + limits.chunk_age * half_second) newest

-- why an entry is refused for its age, if it is: it is older than the horizon, or too far behind the newest of its stream
abbrev pub age_refusal : Limits → FinMap label_set_cmp ℕ → ℕ → Entry → Option AddRefusal
age_refusal limits newest horizon entry =
    if nat_lt entry.timestamp horizon then Some (Expired horizon)
    else (if is_far_behind limits entry (newest_at newest entry.labels) then Some (TooFarBehind (newest_at newest entry.labels))
    else None)

-- a call that only looks at the store
pub record Looks (old new : StreamsView) : Type 0 where
  pub limits : new.limits ≡ old.limits
  pub held : new.held ≡ old.held
  pub newest : new.newest ≡ old.newest
  pub next : new.next ≡ old.next
  pub loose : new.loose ≡ old.loose
  pub unwritten : new.unwritten ≡ old.unwritten
  pub rows : new.rows ≡ old.rows
  pub seen : Looked old.seen new.seen

-- a call that seals heads
pub record Cuts (old new : StreamsView) : Type 0 where
  pub limits : new.limits ≡ old.limits
  pub held : new.held ≡ old.held
  pub newest : new.newest ≡ old.newest
  pub next : new.next ≡ old.next
  pub order : order_of new ≡ order_of old
  pub numbers : numbers_in new.rows ≡ numbers_in old.rows
  pub seen : new.seen ≡ old.seen

-- the entry is held with the others, and its stream's newest timestamp is raised to its own
pub record Takes (old : StreamsView) (entry : Entry) (new : StreamsView) : Type 0 where
  pub limits : new.limits ≡ old.limits
  pub held : new.held ≡ insert old.held entry tt
  pub newest : new.newest ≡ raised old.newest entry.labels entry.timestamp
  pub next : new.next ≡ old.next
  pub rows : IsTakenBy old.limits.chunk_entries old.rows entry new.rows
  pub numbers : numbers_in new.rows ≡ numbers_in old.rows
  pub seen : Looked old.seen new.seen

-- a call that gives numbers to parts, from the next one on
pub record Flushes (old new : StreamsView) : Type 0 where
  pub limits : new.limits ≡ old.limits
  pub held : new.held ≡ old.held
  pub newest : new.newest ≡ old.newest
  pub next : old.next ≤ new.next
  pub loose : new.loose ≡ old.loose
  pub order : order_of new ≡ order_of old
  -- each number was given to one part, and no other number to any
  pub numbers : new.next + new.unwritten ≡ old.next + old.unwritten
  pub given : AreGiven (numbers_in old.rows) old.next new.next (numbers_in new.rows)

-- faults after an entry was refused so: one more where the device failed
abbrev pub add_faults : AddRefusal → ℕ → ℕ
add_faults (Expired horizon) faults = faults
add_faults (TooFarBehind newest) faults = faults
add_faults Full faults = faults
add_faults (Read fault) faults = read_faults fault faults

-- and after such an answer
abbrev pub after_add : {A : Type 0} → Result A AddRefusal → ℕ → ℕ
after_add (Ok _) faults = faults
after_add (Err refusal) faults = add_faults refusal faults

-- what becomes of an entry that is not refused for its age, over an honest store: one that is held changes nothing; for a new one there
-- must be room. The search for it may fail, but finds nothing damaged
abbrev pub IsDecided : Result Bool AddRefusal → StreamsView → Entry → StreamsView → Type 0
IsDecided (Ok true) old entry new = (contains_key old.held entry ≡ false) × ((len old.held < old.limits.entries) × Takes old entry new)
IsDecided (Ok false) old entry new = (contains_key old.held entry ≡ true) × Looks old new
IsDecided (Err Full) old entry new = (contains_key old.held entry ≡ false) × (old.limits.entries ≤ len old.held)
IsDecided (Err (Read reads.Fault)) old entry new = Unit {0}
IsDecided (Err (Read reads.Damaged)) old entry new = ⊥
IsDecided (Err (Read reads.Memory)) old entry new = Unit {0}
IsDecided (Err (Expired horizon)) old entry new = ⊥
IsDecided (Err (TooFarBehind newest)) old entry new = ⊥
