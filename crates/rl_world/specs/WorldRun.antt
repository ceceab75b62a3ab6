-- A run of steps, and what it makes of the sinks.
use Rattle.std.specs.Prelude.{◌≡◌, ℕ, false, List, [], ◌∷◌, map, length, drop, Some, slice_get, slice_set}
use Rattle.std.specs.List.{AllZip}
use Rattle.rl_labels.specs.declared.entry.Entry.{Entry}
use Rattle.rl_rules.specs.declared.evaluation.Evaluation.{Evaluation}
use Rattle.rl_sinks.specs.SinkState.{SinkState}
use Rattle.rl_world.specs.Closed.{IsPumped}
use Rattle.rl_world.specs.Offering.{AllOffered, behind_of}
use Rattle.rl_world.specs.ShardsTurn.{AreHonest, ShardsTurn}
use Rattle.rl_world.specs.WorldState.{BookState, WorldBooks, WorldState, Stands, world_of}
use Rattle.rl_world.specs.WorldStep.{WorldStep, IsRefused, Replay, asks_shard, lists, partials}
use Rattle.rl_world.specs.declared.fault.Refusal.{Refusal}
use Rattle.rl_world.specs.declared.step.Step.{Step}
use Rattle.rl_world.specs.declared.step.Step.TheVariants as steps
use Rattle.rl_world.specs.declared.step.Reply.{Reply}
use Rattle.rl_world.specs.declared.step.Reply.TheVariants as replies

-- the sinks of a group, ready as they are to be, are offered what they have not taken, and those that are behind are listed; its
-- book keeps the number of shards that it asks, and the number under which it asks them
pub record SinksOffered (AreReady : List SinkState → List SinkState → Type 0) (old : List BookState) (group : ℕ) (behind : List ℕ) (new : List BookState) : Type 0 where
  pub before : BookState
  pub there : slice_get old group ≡ Some before
  pub after : BookState
  pub now : new ≡ slice_set old group after
  pub asks : (after.shards ≡ before.shards) × (after.slot ≡ before.slot)
  pub ready : List SinkState
  pub are_ready : AreReady before.sinks ready
  pub offered : AllOffered after.history.evaluations ready after.sinks
  pub behind_is : behind ≡ behind_of after.history.evaluations after.sinks

-- what sinks are offered, the sinks, how many shards a book asks, and under which number
pub record BookOffers : Type 0 where
  pub evaluations : List Evaluation
  pub sinks : List SinkState
  pub shards : ℕ
  pub slot : ℕ

abbrev pub offers : BookState → BookOffers
offers book = record { evaluations = book.history.evaluations; sinks = book.sinks; shards = book.shards; slot = book.slot }

-- as they were, or each pumped
abbrev pub AreAsTheyWere : List SinkState → List SinkState → Type 0
AreAsTheyWere sinks ready = ready ≡ sinks

abbrev pub ArePumped : List SinkState → List SinkState → Type 0
ArePumped sinks ready = AllZip IsPumped sinks ready

-- what a step makes of the sinks: only a commit adds an evaluation, and only it and a catch-up, which pumps them first, touch them
abbrev pub SinkStep : List BookState → Step → Reply → List BookState → Type 0
SinkStep old (steps.Commit group) (replies.Committed answer) new = SinksOffered AreAsTheyWere old group answer.behind new
SinkStep old (steps.CatchUp group) (replies.CaughtUp behind) new = SinksOffered ArePumped old group behind new
SinkStep old step reply new = map offers new ≡ map offers old

-- a turn of the world
pub record Turned (old : WorldBooks) (step : Step) (reply : Reply) (new : WorldBooks) : Type 0 where
  -- over any stores: a step that is refused counts as no step
  pub refused : (refusal : Refusal) → reply ≡ replies.Refused refusal → IsRefused (world_of old.shards old.books) step refusal (world_of new.shards new.books)
  -- over any stores: a step that asks no shard is one on the partials that are kept
  pub on_kept : asks_shard step ≡ false → WorldStep partials (world_of old.shards old.books) step reply (world_of new.shards new.books)
  -- over any stores: what it makes of the sinks
  pub sinks : SinkStep old.books step reply new.books
  -- over any stores: what becomes of the shards, of their stores, and of the books for which they are asked
  pub stores : ShardsTurn old step reply new
  -- over honest stores: a step by LogQL from scratch, on any lists that may have been shown
  pub from_scratch : AreHonest old.shards → (shown : WorldState (List Entry)) → Stands (world_of old.shards old.books) shown → (after : WorldState (List Entry)) × Stands (world_of new.shards new.books) after × WorldStep lists shown step reply after

-- a run: turn after turn, with one reply for each step
abbrev pub Ran : WorldBooks → List Step → List Reply → WorldBooks → Type 0
Ran old [] [] new = new ≡ old
Ran old (step ∷ steps) (reply ∷ replies) new = (mid : WorldBooks) × Turned old step reply mid × Ran mid steps replies new
Ran old [] (reply ∷ replies) new = ⊥
Ran old (step ∷ steps) [] new = ⊥

-- a replay by LogQL from scratch: for any lists that may have been shown before there are lists that may have been shown after,
-- and the steps lead from the ones to the others
abbrev pub Replays : WorldBooks → List Step → List Reply → WorldBooks → Type 0
Replays old steps replies new = (shown : WorldState (List Entry)) → Stands (world_of old.shards old.books) shown → (after : WorldState (List Entry)) × Stands (world_of new.shards new.books) after × Replay lists shown steps replies after

-- what a list gained at its end
abbrev pub gained : List Reply → List Reply → List Reply
gained old new = drop (length old) new
