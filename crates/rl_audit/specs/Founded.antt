-- Evaluations and the records that they rest on.
use Rattle.std.specs.Prelude.{◌≡◌, ◌<◌, ℕ, suc, List, [], map, take, Some, IfSome, slice_get}
use Rattle.std.specs.List.{AllZip}
use Rattle.rl_aggregate.specs.declared.partial.Partial.{Partial}
use Rattle.rl_labels.specs.declared.entry.Entry.{Entry}
use Rattle.rl_query.specs.declared.query.Term.{Term}
use Rattle.rl_records.specs.declared.record.Record.{Record}
use Rattle.rl_records.specs.declared.step.ShardReply.TheVariants as replies
use Rattle.rl_records.specs.declared.step.ShardStep.TheVariants as steps
use Rattle.rl_rules.specs.Editing.{handed_on}
use Rattle.rl_rules.specs.declared.alert.Alert.{Alert}
use Rattle.rl_rules.specs.declared.evaluation.Evaluation.{Evaluation}
use Rattle.rl_rules.specs.declared.rule.Group.{Group}
use Rattle.rl_shard.specs.Journal.{IsJournalOf, LeadsTo}
use Rattle.rl_shard.specs.ShardFault.{IsHonest}
use Rattle.rl_shard.specs.ShardState.{ShardState, ShardView, empty_shard, journalled, visible}
use Rattle.rl_world.specs.Evaluating.{evaluation_of, group_terms}
use Rattle.rl_world.specs.History.{alerts_after, evaluations_in, group_after}
use Rattle.rl_world.specs.Kept.{evaluation_from}
use Rattle.rl_world.specs.WorldState.{BookState}
use Rattle.rl_world.specs.declared.item.Item.{Item}
use Rattle.rl_world.specs.declared.item.Item.TheVariants as kinds
use Rattle.rl_world.specs.declared.opened.Gathered.{Gathered}
use Rattle.rl_world.specs.declared.opened.OpenEvaluation.{OpenEvaluation}

-- an evaluation at a moment for which each shard was asked
abbrev pub gathered_of : {X : Type 0} → (t : ℕ) → List (Gathered X) → OpenEvaluation X
gathered_of t answers = record { t = t; gathered = map Some answers }

-- the record at the place of an answer is the question of a group's slot for terms at a moment, answered so
abbrev pub IsAsked : (slot : ℕ) → List Term → (t : ℕ) → List Record → Gathered (List Partial) → Type 0
IsAsked slot terms t journal answer = slice_get journal answer.place ≡ Some (record { step = steps.Collect slot terms t; reply = replies.Collected answer.shown })

-- an evaluation of a group with alerts is what records of the journals give, one of each shard
pub record IsFounded (journals : List (List Record)) (slot : ℕ) (group : Group) (alerts : List (List Alert)) (evaluation : Evaluation) : Type 0 where
  pub answers : List (Gathered (List Partial))
  pub asked : AllZip (IsAsked slot (group_terms group) evaluation.t) journals answers
  pub made : evaluation ≡ evaluation_from group alerts (gathered_of evaluation.t answers)

-- the group and its alerts that items leave
abbrev pub alerts_left : Group → List Item → List (List Alert)
alerts_left first items = alerts_after first (handed_on first.rules []) items

-- what holds of an evaluation holds of an item that is one
abbrev pub IfEvaluated : (Evaluation → Type 0) → Item → Type 0
IfEvaluated P (kinds.Evaluated evaluation) = P evaluation
IfEvaluated P (kinds.Edited to) = Unit {0}

-- each evaluation of a history is founded, as one of the group and its alerts that the items before it leave
abbrev pub AreFounded : (journals : List (List Record)) → BookState → Type 0
AreFounded journals book = (n : ℕ) → IfSome (slice_get book.history.items n) (IfEvaluated (IsFounded journals book.slot (group_after book.history.first (take n book.history.items)) (alerts_left book.history.first (take n book.history.items))))

-- from one evaluation to the next the places rise in each shard
abbrev pub PlacesRise : List Evaluation → Type 0
PlacesRise evaluations = (n : ℕ) → IfSome (slice_get evaluations n) (λ one. IfSome (slice_get evaluations (suc n)) (λ next. AllZip (λ place later. place < later) one.places next.places))

abbrev pub IsAudited : (journals : List (List Record)) → BookState → Type 0
IsAudited journals book = AreFounded journals book × PlacesRise (evaluations_in book.history.items)

-- FROM SCRATCH

-- over an honest store a shard's journal is legal
abbrev pub IsLegal : ShardView → Type 0
IsLegal shard = IsHonest shard → IsJournalOf shard.streams.limits shard.journal (journalled shard).state

-- an answer is what a shard shows after the records of its journal before the place
pub record IsShownBy (shard : ShardView) (answer : Gathered (List Entry)) : Type 0 where
  pub state : ShardState
  pub replayed : LeadsTo shard.streams.limits (empty_shard shard.streams.limits) (take answer.place shard.journal) state
  pub shown : answer.shown ≡ visible state

-- an evaluation of a group with alerts is LogQL evaluated from scratch on what each shard showed where it was asked
pub record IsFromScratch (shards : List ShardView) (group : Group) (alerts : List (List Alert)) (evaluation : Evaluation) : Type 0 where
  pub answers : List (Gathered (List Entry))
  pub shown : AllZip IsShownBy shards answers
  pub made : evaluation ≡ evaluation_of group alerts (gathered_of evaluation.t answers)

abbrev pub AreFromScratch : List ShardView → BookState → Type 0
AreFromScratch shards book = (n : ℕ) → IfSome (slice_get book.history.items n) (IfEvaluated (IsFromScratch shards (group_after book.history.first (take n book.history.items)) (alerts_left book.history.first (take n book.history.items))))
