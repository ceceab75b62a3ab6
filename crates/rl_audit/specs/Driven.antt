-- Books that are driven through a history anew.
use Rattle.std.specs.Prelude.{◌≡◌, ◌<◌, ◌-◌, ◌++◌, ℕ, List, map, length, replicate, None, Some, IfSome, slice_get, take}
use Rattle.std.specs.List.{AllZip}
use Rattle.rl_aggregate.specs.declared.partial.Partial.{Partial}
use Rattle.rl_records.specs.declared.record.Record.{Record}
use Rattle.rl_rules.specs.declared.evaluation.Evaluation.{Evaluation}
use Rattle.rl_world.specs.BookCalls.{with_history}
use Rattle.rl_world.specs.Evaluating.{group_terms}
use Rattle.rl_world.specs.History.{History, alerts_of, committed, edited}
use Rattle.rl_world.specs.WorldState.{BookState}
use Rattle.rl_world.specs.declared.item.Item.{Item}
use Rattle.rl_world.specs.declared.item.Item.TheVariants as kinds
use Rattle.rl_world.specs.declared.opened.Gathered.{Gathered}
use Rattle.rl_world.specs.declared.opened.OpenEvaluation.{OpenEvaluation}
use Rattle.rl_audit.specs.Founded.{IsAsked, IsFounded, IfEvaluated}

-- the places of an evaluation are after those of the last one of a history, if there is one
abbrev pub IsLater : History (List Partial) → Evaluation → Type 0
IsLater history evaluation = IfSome (slice_get history.evaluations (length history.evaluations - 1)) (λ last. AllZip (λ place later. place < later) last.places evaluation.places)

-- one item more
abbrev pub with_item : History (List Partial) → Item → History (List Partial)
with_item history (kinds.Edited to) = edited history to
with_item history (kinds.Evaluated evaluation) = committed history evaluation

-- a book was driven by one item more, which is founded in the journals if it is an evaluation
pub record IsDriven (journals : List (List Record)) (old : BookState) (item : Item) (new : BookState) : Type 0 where
  pub history : new.history ≡ with_item old.history item
  pub shards : new.shards ≡ old.shards
  pub slot : new.slot ≡ old.slot
  pub founded : IfEvaluated (IsFounded journals old.slot old.history.group (alerts_of old.history)) item
  pub later : IfEvaluated (IsLater old.history) item

-- an evaluation at a moment for which the first of so many shards answered
abbrev pub opened_with : (shards t : ℕ) → List (Gathered (List Partial)) → OpenEvaluation (List Partial)
opened_with shards t answers = record { t = t; gathered = map Some answers ++ replicate (shards - length answers) None }

abbrev pub with_open : OpenEvaluation (List Partial) → History (List Partial) → History (List Partial)
with_open opened history = record { first = history.first; records = history.records; items = history.items; group = history.group; evaluations = history.evaluations; opened = Some opened }

-- a book opened an evaluation at a moment, and the first shards answered it, each by a record of its journal
pub record AreGathered (journals : List (List Record)) (count t : ℕ) (old new : BookState) : Type 0 where
  pub answers : List (Gathered (List Partial))
  pub each : length answers ≡ count
  pub asked : AllZip (IsAsked old.slot (group_terms old.history.group) t) (take count journals) answers
  pub kept : new ≡ with_history old (with_open (opened_with old.shards t answers) old.history)
