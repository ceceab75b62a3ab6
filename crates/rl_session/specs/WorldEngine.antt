-- A world as an engine: which steps each call makes, one after another, and with which replies.
use Rattle.std.specs.Prelude.{◌≡◌, ◌⊎◌, ◌<◌, ◌-◌, ◌^◌, ℕ, suc, min, ⊤, Bool, false, List, [], ◌∷◌, map, length, is_some, if◌then◌else◌, Option, None, Some, option_map, Result, Ok, Err, slice_get}
use Rattle.std.specs.List.{AllByRecursion, AllZip}
use Rattle.rl_labels.specs.Routing.{shard_of}
use Rattle.rl_labels.specs.declared.entry.Entry.{Entry}
use Rattle.rl_rules.specs.declared.rule.Group.{Group}
use Rattle.rl_records.specs.declared.step.ShardReply.{ShardReply}
use Rattle.rl_records.specs.declared.step.ShardStep.{ShardStep}
use Rattle.rl_records.specs.declared.step.ShardStep.TheVariants as shard_steps
use Rattle.rl_sinks.specs.SinkState.{SinkState}
use Rattle.rl_sinks.specs.declared.sink.SinkFault.{SinkFault}
use Rattle.rl_world.specs.Closed.{HasAnswered, IsBookClosed, failures, sinks_of}
use Rattle.rl_world.specs.Evaluations.{IsEvaluated}
use Rattle.rl_world.specs.History.{is_due}
use Rattle.rl_world.specs.WorldRun.{Turned}
use Rattle.rl_world.specs.WorldState.{BookState, WorldBooks, sink_at}
use Rattle.rl_world.specs.WorldStep.{as_reply}
use Rattle.rl_world.specs.declared.fault.Refusal.{Refusal}
use Rattle.rl_world.specs.declared.fault.Refusal.TheVariants.{Memory}
use Rattle.rl_world.specs.declared.step.Reply.TheVariants as replies
use Rattle.rl_world.specs.declared.step.Step.TheVariants as steps
use Rattle.rl_session.specs.Engine.{Calls, Listed, Shown}
use Rattle.rl_session.specs.declared.engine.Partly.{Partly}
use Rattle.rl_session.specs.Names.{shard_refusal}

-- a book as an engine lists it
abbrev pub listed : BookState → Listed
listed book = record { name = book.history.group.name; sinks = length book.sinks }

abbrev pub shown_of : SinkState → Shown
shown_of sink = record { count = sink.count; kept = sink.kept }

-- whether the book is there, and an evaluation of it is due
abbrev pub is_due_at : Option BookState → ℕ → Bool
is_due_at None now = false
is_due_at (Some book) now = is_due book.history now

-- a shard is asked for a step
abbrev pub IsAskedOne : WorldBooks → ℕ → ShardStep → Result ShardReply Refusal → WorldBooks → Type 0
IsAskedOne old number step (Ok reply) new = (place : ℕ) × Turned old (steps.Shard number step) (replies.Decided place reply) new
IsAskedOne old number step (Err refusal) new = Turned old (steps.Shard number step) (replies.Refused refusal) new

-- an entry is a step of its stream's shard
abbrev pub IsPushed : WorldBooks → Entry → Result ShardReply Refusal → WorldBooks → Type 0
IsPushed old entry answer new = IsAskedOne old (shard_of entry.labels (length old.shards)) (shard_steps.Push entry) answer new

-- a shard refuses a step, or there was no memory to ask it
abbrev pub IsStopped : WorldBooks → ShardStep → ℕ → Refusal → WorldBooks → Type 0
IsStopped old step number refusal new = Turned old (steps.Shard number step) (replies.Refused refusal) new ⊎ ((refusal ≡ Memory) × (new ≡ old))

-- a shard is asked for a step; where it does not decide it, those with a lower number did
abbrev pub IsAskedFor : WorldBooks → ShardStep → ℕ → Result ShardReply Partly → WorldBooks → Type 0
IsAskedFor old step number (Ok reply) new = (place : ℕ) × Turned old (steps.Shard number step) (replies.Decided place reply) new
IsAskedFor old step number (Err partly) new = (partly.done ≡ number) × IsStopped old step number partly.refusal new

-- shards from one on decide a step in their order, with these replies
abbrev pub AreDecided : WorldBooks → ShardStep → ℕ → List ShardReply → WorldBooks → Type 0
AreDecided old step number [] new = new ≡ old
AreDecided old step number (reply ∷ replies) new = (mid : WorldBooks) × IsAskedFor old step number (Ok reply) mid × AreDecided mid step (suc number) replies new

-- the first, if there is one, else the other
abbrev pub or_else : Option ShardReply → Option ShardReply → Option ShardReply
or_else (Some reply) other = Some reply
or_else None other = other

-- a reply, if it is a refusal
abbrev pub refusing : ShardReply → Option ShardReply
refusing reply = if is_some (shard_refusal reply) then Some reply else None

-- the first of replies that is a refusal
abbrev pub first_refused : List ShardReply → Option ShardReply
first_refused [] = None
first_refused (reply ∷ replies) = or_else (refusing reply) (first_refused replies)

-- all shards decide a step, or the answered number of them does, and the next one does not
abbrev pub IsAskedOfAll : WorldBooks → ShardStep → Result (Option ShardReply) Partly → WorldBooks → Type 0
IsAskedOfAll old step (Ok refused) new = (replies : List ShardReply) × (length replies ≡ length old.shards) × (refused ≡ first_refused replies) × AreDecided old step 0 replies new
IsAskedOfAll old step (Err partly) new = (replies : List ShardReply) × (length replies ≡ partly.done) × (partly.done < length old.shards) × (mid : WorldBooks) × AreDecided old step 0 replies mid × IsStopped mid step partly.done partly.refusal new

-- an edit is a step
abbrev pub IsEdited : WorldBooks → ℕ → Group → Result ⊤ Refusal → WorldBooks → Type 0
IsEdited old group to (Ok done) new = (place : ℕ) × Turned old (steps.Edit group to) (replies.Edited place) new
IsEdited old group to (Err refusal) new = Turned old (steps.Edit group to) (replies.Refused refusal) new

-- a catch-up is a step
abbrev pub IsCaughtUp : WorldBooks → ℕ → Result (List ℕ) Refusal → WorldBooks → Type 0
IsCaughtUp old group answer new = Turned old (steps.CatchUp group) (as_reply replies.CaughtUp answer) new

-- each sink is closed, and how many could not write all, as a number of 64 bits or the greatest of them
abbrev pub IsClosed : {S : Type 0} → (S → SinkState) → (S → Result ⊤ SinkFault → Type 0) → WorldBooks → ℕ → WorldBooks → Type 0
IsClosed state Says old count new = (new.shards ≡ old.shards) × AllZip IsBookClosed old.books new.books × (count ≡ min (failures (sinks_of new.books)) (2 ^ 64 - 1)) × AllByRecursion (HasAnswered state Says) (sinks_of new.books)

abbrev pub world_calls : Calls WorldBooks
world_calls = record {
  groups = λ world. map listed world.books;
  pushes = IsPushed;
  asks_all = IsAskedOfAll;
  edits = IsEdited;
  evaluates = IsEvaluated;
  catches_up = IsCaughtUp;
  is_due = λ world group now due. due ≡ is_due_at (slice_get world.books group) now;
  shows = λ world group sink shown. shown ≡ option_map shown_of (sink_at world.books group sink);
  blocks = false;
}

-- no group and no sink comes or goes, and no shard
abbrev pub IsAlike : WorldBooks → WorldBooks → Type 0
IsAlike old new = (map listed new.books ≡ map listed old.books) × (length new.shards ≡ length old.shards)
