-- What a shard holds, and what it shows.
use Rattle.std.specs.Prelude.{ℕ, List, [], length, refl}
use Rattle.std.specs.Coded.{Coded, code_by, coded×, coded_ℕ, coded_list}
use Rattle.std.specs.FinMap.{FinMap, empty, keys}
use Rattle.rl_labels.specs.LabelText.{label_set_cmp}
use Rattle.rl_labels.specs.EntryOrder.{EntrySet}
use Rattle.rl_labels.specs.declared.entry.Entry.{Entry}
use Rattle.rl_labels.specs.declared.limits.Limits.{Limits}
use Rattle.rl_chunks.specs.StoreState.{Seen}
use Rattle.rl_deletes.specs.Deletes.{RequestsView, covered, no_requests}
use Rattle.rl_deletes.specs.Views.{requests_code}
use Rattle.rl_parts.specs.Rewriting.{uncovered}
use Rattle.rl_pipeline.specs.Metering.{Metered}
use Rattle.rl_records.specs.contracts.record.Record as one
use Rattle.rl_records.specs.declared.record.Record.{Record}
use Rattle.rl_slots.specs.Slots.{slot_code, SlotView}
use Rattle.rl_streams.specs.StreamsState.{StreamsView, streams_code, no_streams}

pub record ShardState : Type 0 where
  -- the entries that it holds
  pub held : EntrySet
  -- the newest timestamp that each stream ever had, in nanoseconds
  pub newest : FinMap label_set_cmp ℕ
  -- the delete requests, in whatever status
  pub requests : RequestsView
  -- an entry below it is expired, in nanoseconds
  pub horizon : ℕ

abbrev pub empty_shard : Limits → ShardState
empty_shard limits = record { held = empty; newest = empty; requests = no_requests limits; horizon = 0 }

-- the entries that a query sees, by label text, timestamp and line: those that no received request covers
abbrev pub visible : ShardState → List Entry
visible shard = uncovered (covered shard.requests) (keys shard.held)

-- what is promised of a shard: its limits, what it holds, and how many records its journal has
pub record Journalled : Type 0 where
  pub limits : Limits
  pub state : ShardState
  pub records : ℕ

-- an empty shard of these limits, with an empty journal
abbrev pub opened : Limits → Journalled
opened limits = record { limits = limits; state = empty_shard limits; records = 0 }

-- a shard as it is seen: its streams with their store, the requests, the horizon, the windows that groups ask about, what these
-- cost, and the records of its journal
pub record ShardView : Type 0 where
  pub streams : StreamsView
  pub requests : RequestsView
  pub horizon : ℕ
  pub slots : List SlotView
  pub meter : Metered
  pub journal : List Record

-- the same without its journal
pub record PartsView : Type 0 where
  pub streams : StreamsView
  pub requests : RequestsView
  pub horizon : ℕ
  pub slots : List SlotView
  pub meter : Metered

abbrev pub parts_of : ShardView → PartsView
parts_of shard = record { streams = shard.streams; requests = shard.requests; horizon = shard.horizon; slots = shard.slots; meter = shard.meter }

-- what it holds
abbrev pub state_of : PartsView → ShardState
state_of parts = record { held = parts.streams.held; newest = parts.streams.newest; requests = parts.requests; horizon = parts.horizon }

-- the part of a shard that is promised
abbrev pub journalled : ShardView → Journalled
journalled shard = record { limits = shard.streams.limits; state = state_of (parts_of shard); records = length shard.journal }

-- an empty shard over a store
abbrev pub opened_over : Limits → Seen → ShardView
opened_over limits seen = record { streams = no_streams limits seen; requests = no_requests limits; horizon = 0; slots = []; meter = record { runs = 0; visits = 0 }; journal = [] }

-- counters as numbers, for a store
abbrev metered_code : Coded Metered
metered_code = code_by (ℕ × ℕ) (coded× coded_ℕ coded_ℕ) (λ m. (m.runs, m.visits)) (λ p. record { runs = p.0; visits = p.1 }) (λ _. refl)

-- both views of a shard as numbers, for a store
abbrev pub parts_code : Coded PartsView
parts_code = code_by (StreamsView × (RequestsView × (ℕ × (List SlotView × Metered)))) (coded× streams_code (coded× requests_code (coded× coded_ℕ (coded× (coded_list slot_code) metered_code))))
    (λ s. (s.streams, (s.requests, (s.horizon, (s.slots, s.meter)))))
    (λ p. record { streams = p.0; requests = p.1.0; horizon = p.1.1.0; slots = p.1.1.1.0; meter = p.1.1.1.1 })
    (λ _. refl)

abbrev pub shard_view_code : Coded ShardView
shard_view_code = code_by (PartsView × List Record) (coded× parts_code (coded_list one.the_row.coded))
    (λ s. (parts_of s, s.journal))
    (λ p. record { streams = p.0.streams; requests = p.0.requests; horizon = p.0.horizon; slots = p.0.slots; meter = p.0.meter; journal = p.1 })
    (λ _. refl)
