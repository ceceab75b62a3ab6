-- The state of a world, of one book, and what is kept instead of lists.
use Rattle.std.specs.Prelude.{◌≡◌, ℕ, ◌≤◌, List, map, length, Option, option_map, option_and_then, slice_get, IfSome}
use Rattle.std.specs.List.{AllByRecursion}
use Rattle.rl_labels.specs.declared.entry.Entry.{Entry}
use Rattle.rl_query.specs.declared.query.Term.{Term}
use Rattle.rl_aggregate.specs.declared.partial.Partial.{Partial}
use Rattle.rl_shard.specs.ShardState.{Journalled, ShardView, journalled}
use Rattle.rl_rules.specs.declared.alert.Alert.{Alert}
use Rattle.rl_sinks.specs.SinkState.{SinkState}
use Rattle.rl_world.specs.Evaluating.{group_terms}
use Rattle.rl_world.specs.Kept.{partials_of}
use Rattle.rl_world.specs.History.{History, alerts_of, group_after, evaluations_in}
use Rattle.rl_world.specs.Offering.{TookPrefix}
use Rattle.rl_world.specs.ShardAnswers.{IsKept, most_shards}
use Rattle.rl_world.specs.declared.opened.Gathered.{Gathered}
use Rattle.rl_world.specs.declared.opened.OpenEvaluation.{OpenEvaluation}

-- what is promised of each shard, and the history of each group
pub record WorldState (X : Type 0) : Type 0 where
  pub shards : List Journalled
  pub histories : List (History X)

-- a book as it is seen: the history of its group, what it asks of shards, and its sinks
pub record BookState : Type 0 where
  pub history : History (List Partial)
  -- how many shards it asks
  pub shards : ℕ
  -- the number under which it asks them
  pub slot : ℕ
  pub sinks : List SinkState

-- a world as it is seen: its shards, and the book of each group
pub record WorldBooks : Type 0 where
  pub shards : List ShardView
  pub books : List BookState

abbrev pub seen_as : List ShardView → List BookState → WorldBooks
seen_as shards books = record { shards = shards; books = books }

-- the world that shards and books make up
abbrev pub world_of : List ShardView → List BookState → WorldState (List Partial)
world_of shards books = record { shards = map journalled shards; histories = map (λ book. book.history) books }

-- a sink by the number of its group and its own
abbrev pub sink_at : List BookState → ℕ → ℕ → Option SinkState
sink_at books group number = option_and_then (λ book. slice_get book.sinks number) (slice_get books group)

-- with the partials of a list instead of it
abbrev pub kept_answer : List Term → ℕ → Gathered (List Entry) → Gathered (List Partial)
kept_answer terms t answer = record { place = answer.place; shown = partials_of answer.shown terms t }

abbrev pub kept_open : List Term → OpenEvaluation (List Entry) → OpenEvaluation (List Partial)
kept_open terms opened = record { t = opened.t; gathered = map (option_map (kept_answer terms opened.t)) opened.gathered }

abbrev pub kept_history : History (List Entry) → History (List Partial)
kept_history history = record { first = history.first; records = history.records; items = history.items; group = history.group; evaluations = history.evaluations; opened = option_map (kept_open (group_terms history.group)) history.opened }

abbrev pub kept_world : WorldState (List Entry) → WorldState (List Partial)
kept_world world = record { shards = world.shards; histories = map kept_history world.histories }

-- what is kept stands for every world of shown lists whose partials it has
abbrev pub Stands : WorldState (List Partial) → WorldState (List Entry) → Type 0
Stands kept world = kept ≡ kept_world world

-- so it stands for some lists that may have been shown
abbrev pub StandsForSome : WorldState (List Partial) → Type 0
StandsForSome kept = (shown : WorldState (List Entry)) × Stands kept shown

-- what holds of every book: its terms are the group's, its alerts are what its history left, a list for each rule, the group and the evaluations are those of its items, an open evaluation has room for each shard, and its sinks took prefixes
pub record IsBook (terms : List Term) (alerts : List (List Alert)) (book : BookState) : Type 0 where
  pub terms_are : terms ≡ group_terms book.history.group
  pub alerts_are : alerts ≡ alerts_of book.history
  pub each : length alerts ≡ length book.history.group.rules
  pub few_shards : book.shards ≤ most_shards
  pub few_records : book.history.records ≤ 1048576
  pub few : length book.history.items ≤ book.history.records
  pub group_is : book.history.group ≡ group_after book.history.first book.history.items
  pub evaluations_are : book.history.evaluations ≡ evaluations_in book.history.items
  pub answers : IfSome book.history.opened (λ opened. (length opened.gathered ≡ book.shards) × AllByRecursion (IsKept (length terms)) opened.gathered)
  pub prefixes : AllByRecursion (TookPrefix book.history.evaluations) book.sinks

-- each sink of a book took a prefix
abbrev pub TookPrefixes : BookState → Type 0
TookPrefixes book = AllByRecursion (TookPrefix book.history.evaluations) book.sinks

-- a book of a world with `shards` shards
abbrev pub IsBookOf : ℕ → BookState → Type 0
IsBookOf shards book = (book.shards ≡ shards) × TookPrefixes book

abbrev pub with_sinks : BookState → List SinkState → BookState
with_sinks book sinks = record { history = book.history; shards = book.shards; slot = book.slot; sinks = sinks }
