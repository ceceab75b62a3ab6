-- The streams of a shard as a list of rows, each a stream under its labels: what they hold together, and what is always true of them.
use Rattle.std.specs.Prelude.{◌≡◌, ℕ, ◌<◌, ◌≤◌, ◌⊎◌, max, nat_eq, Bool, true, List, map}
use Rattle.std.specs.List.{All, AllByRecursion, Contains, IsDistinct, filter, flat_map, list_any}
use Rattle.std.specs.Map.{keys_of}
use Rattle.std.specs.Option.{unwrap_or, is_none}
use Rattle.std.specs.FinMap.{FinMap, get, insert, from_entries}
use Rattle.std.specs.Ordering.{eq_by_cmp}
use Rattle.rl_labels.specs.LabelSet.{LabelSet}
use Rattle.rl_labels.specs.LabelText.{label_set_cmp, label_set_eq}
use Rattle.rl_labels.specs.EntryOrder.{entry_cmp}
use Rattle.rl_labels.specs.declared.entry.Entry.{Entry}
use Rattle.rl_parts.specs.ChunksState.{ChunksView}
use Rattle.rl_parts.specs.StreamParts.{StreamView, PartView, entries_of, notes_of}
use Rattle.rl_parts.specs.StoreUse.{AreKept}

-- a stream under its labels
abbrev pub Row : Type 0
Row = LabelSet × StreamView

-- the entries of all streams, one stream after the other
abbrev pub joined : List Row → List Entry
joined rows = flat_map (λ row. entries_of row.1) rows

-- the entries of each stream
abbrev pub by_stream : List Row → List (List Entry)
by_stream rows = map (λ row. entries_of row.1) rows

-- the newest timestamp of each stream
abbrev pub newest_in : List Row → List (LabelSet × ℕ)
newest_in rows = map (λ row. (row.0, row.1.newest)) rows

-- the newest timestamp of each stream of a list
abbrev pub newest_map : List (LabelSet × ℕ) → FinMap label_set_cmp ℕ
newest_map newest = from_entries newest

-- the newest timestamp of a stream, 0 for a new one
abbrev pub newest_at : FinMap label_set_cmp ℕ → LabelSet → ℕ
newest_at newest labels = unwrap_or (get newest labels) 0

-- the newest timestamp of a stream is raised to another, and never lowered
abbrev pub raised : FinMap label_set_cmp ℕ → LabelSet → ℕ → FinMap label_set_cmp ℕ
raised newest labels timestamp = insert newest labels (max (newest_at newest labels) timestamp)

-- the numbers under which a store has parts of the stream
abbrev pub numbers_of : StreamView → List ℕ
numbers_of stream = map (λ note. note.number) (notes_of stream.parts)

abbrev pub numbers_in : List Row → List ℕ
numbers_in rows = flat_map (λ row. numbers_of row.1) rows

-- each number was one of these, or is from the first up to the next
abbrev pub AreGiven : List ℕ → ℕ → ℕ → List ℕ → Type 0
AreGiven old first next new = (number : ℕ) → Contains new number → Contains old number ⊎ ((first ≤ number) × (number < next))

-- the entries that are not sealed yet
abbrev pub loose_in : List Row → List Entry
loose_in rows = flat_map (λ row. row.1.head) rows

-- the sealed parts that the store does not have
abbrev pub unwritten_in : List Row → List PartView
unwritten_in rows = flat_map (λ row. filter (λ part. is_none part.note) row.1.parts) rows

-- the entry is one of these
abbrev pub is_among : Entry → List Entry → Bool
is_among entry entries = list_any (eq_by_cmp entry_cmp entry) entries

-- the stream and its entries have these labels
pub record IsOwn (row : Row) : Type 0 where
  pub labels : row.1.labels ≡ row.0
  pub entries : All (λ entry. entry.labels ≡ row.0) (entries_of row.1)

-- one stream for each label set, and no number stands twice; the chunks keep their parts, and over an honest store no entry is held twice
pub record AreStreams (rows : List Row) (chunks : ChunksView) : Type 0 where
  pub own : AllByRecursion IsOwn rows
  pub apart : IsDistinct label_set_eq (keys_of rows)
  pub kept : AllByRecursion (λ row. AreKept chunks row.1) rows
  pub numbers : IsDistinct nat_eq (numbers_in rows)
  pub once : chunks.seen.honest ≡ true → IsDistinct (eq_by_cmp entry_cmp) (joined rows)
