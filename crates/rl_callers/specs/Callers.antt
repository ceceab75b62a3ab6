-- A caller as an engine: what each call adds to the receipts and the notes of its pass.
use Rattle.std.specs.Prelude.{◌≡◌, ℕ, ⊤, true, List, [], ◌∷◌, Option, Result, Ok, Err}
use Rattle.rl_audit.specs.Merged.{receipt_of}
use Rattle.rl_labels.specs.Routing.{shard_of}
use Rattle.rl_labels.specs.declared.entry.Entry.{Entry}
use Rattle.rl_records.specs.declared.step.ShardReply.{ShardReply}
use Rattle.rl_records.specs.declared.step.ShardStep.{ShardStep}
use Rattle.rl_records.specs.declared.step.ShardStep.TheVariants as steps
use Rattle.rl_rules.specs.declared.rule.Group.{Group}
use Rattle.rl_session.specs.Engine.{Calls, Listed}
use Rattle.rl_session.specs.WorldEngine.{first_refused}
use Rattle.rl_session.specs.declared.engine.Partly.{Partly}
use Rattle.rl_workers.specs.Receipts.{PassView, HasKept, HasReceived}
use Rattle.rl_workers.specs.Rulers.{AreDecidedBy, IsEvaluated, IsNoted, IsRefused}
use Rattle.rl_workers.specs.declared.fault.AllFault.{AllFault}
use Rattle.rl_workers.specs.declared.fault.AllFault.TheVariants as all_faults
use Rattle.rl_workers.specs.declared.fault.EditFault.{EditFault}
use Rattle.rl_workers.specs.declared.fault.EditFault.TheVariants as edit_faults
use Rattle.rl_workers.specs.declared.fault.EvaluationFault.{EvaluationFault}
use Rattle.rl_workers.specs.declared.fault.EvaluationFault.TheVariants as faults
use Rattle.rl_workers.specs.declared.fault.GroupFault.{GroupFault}
use Rattle.rl_workers.specs.declared.fault.GroupFault.TheVariants as group_faults
use Rattle.rl_shard.specs.declared.step.ShardFault.{ShardFault}
use Rattle.rl_world.specs.WorldStep.{refusal_of_shard}
use Rattle.rl_world.specs.declared.fault.BookFault.TheVariants as books
use Rattle.rl_world.specs.declared.fault.Refusal.{Refusal}
use Rattle.rl_world.specs.declared.fault.Refusal.TheVariants as refusals
use Rattle.rl_world.specs.declared.step.Committed.{Committed}
use Rattle.rl_callers.specs.declared.caller.Listing.{Listing}

-- a caller: its pass, how many shards its ruler has, and the groups
pub record CallerView : Type 0 where
  pub pass : PassView
  pub shards : ℕ
  pub groups : List Listed

-- a group as an engine lists it
abbrev pub listed : Listing → Listed
listed listing = record { name = listing.name; sinks = listing.sinks }

-- why not all shards decided a step, as a session prints it
abbrev pub partly_of : AllFault → Partly
partly_of (all_faults.Partly done fault) = record { done = done; refusal = refusal_of_shard fault }
partly_of all_faults.Memory = record { done = 0; refusal = refusals.Memory }

-- why a group was not edited, as a session prints it
abbrev pub refusal_of_edit : EditFault → Refusal
refusal_of_edit edit_faults.NoSuch = refusals.NoSuch
refusal_of_edit edit_faults.SessionFull = refusals.Book books.SessionFull
refusal_of_edit edit_faults.Memory = refusals.Memory

-- why the sinks of a group did not catch up, as a session prints it
abbrev pub refusal_of_group : GroupFault → Refusal
refusal_of_group group_faults.NoSuch = refusals.NoSuch
refusal_of_group group_faults.Memory = refusals.Memory

-- why a group was not evaluated, as a session prints it
abbrev pub refusal_of_evaluation : EvaluationFault → Refusal
refusal_of_evaluation faults.NoSuch = refusals.NoSuch
refusal_of_evaluation (faults.MomentNotLater last) = refusals.Book (books.MomentNotLater last)
refusal_of_evaluation (faults.AtShard shard fault) = refusal_of_shard fault
refusal_of_evaluation faults.SessionFull = refusals.Book books.SessionFull
refusal_of_evaluation faults.Memory = refusals.Memory

-- the shard of an entry's stream took it, and the pass has the receipt; or it has what it had
abbrev pub IsPushed : (shards : ℕ) → PassView → Entry → Result ShardReply Refusal → PassView → Type 0
IsPushed shards old entry (Ok reply) new = (place : ℕ) × HasReceived old (receipt_of (shard_of entry.labels shards) place (record { step = steps.Push entry; reply = reply }) ∷ []) new
IsPushed shards old entry (Err refusal) new = (fault : ShardFault) × (refusal ≡ refusal_of_shard fault) × HasKept old new

-- all shards decided a step, or the first of them: the pass has the receipt of each
abbrev pub AreAsked : (shards : ℕ) → PassView → ShardStep → Result (Option ShardReply) Partly → PassView → Type 0
AreAsked shards old step (Ok first) new = (replies : List ShardReply) × (first ≡ first_refused replies) × AreDecidedBy shards step old replies new
AreAsked shards old step (Err partly) new = (fault : AllFault) × (partly ≡ partly_of fault) × (replies : List ShardReply) × AreDecidedBy partly.done step old replies new

-- a group was edited, and the pass has the note; or it has what it had
abbrev pub IsEdited : PassView → ℕ → Group → Result ⊤ Refusal → PassView → Type 0
IsEdited old group to (Ok done) new = IsNoted group to old new
IsEdited old group to (Err refusal) new = (fault : EditFault) × (refusal ≡ refusal_of_edit fault) × HasKept old new

-- a group was evaluated, and the pass has the receipts and the note; or it was refused, and it has the receipts of those that answered
abbrev pub IsMade : (shards : ℕ) → PassView → ℕ → ℕ → Result Committed Refusal → PassView → Type 0
IsMade shards old group t (Ok committed) new = IsEvaluated shards group t old committed new
IsMade shards old group t (Err refusal) new = (fault : EvaluationFault) × (refusal ≡ refusal_of_evaluation fault) × IsRefused fault shards t old new

-- the sinks of a group caught up as far as they could, or its book was not reached
abbrev pub IsCaughtUp : Result (List ℕ) Refusal → Type 0
IsCaughtUp (Ok behind) = Unit {0}
IsCaughtUp (Err refusal) = (fault : GroupFault) × (refusal ≡ refusal_of_group fault)

-- what is known of each call, by the pass; of what is due and what sinks show nothing is
abbrev pub caller_calls : Calls CallerView
caller_calls = record {
  groups = λ caller. caller.groups;
  pushes = λ old entry answer new. IsPushed old.shards old.pass entry answer new.pass × (new.shards ≡ old.shards);
  asks_all = λ old step result new. AreAsked old.shards old.pass step result new.pass × (new.shards ≡ old.shards);
  edits = λ old group to result new. IsEdited old.pass group to result new.pass × (new.shards ≡ old.shards);
  evaluates = λ old group t answer new. IsMade old.shards old.pass group t answer new.pass × (new.shards ≡ old.shards);
  catches_up = λ old group result new. IsCaughtUp result × (new.pass ≡ old.pass) × (new.shards ≡ old.shards);
  is_due = λ caller group now due. Unit {0};
  shows = λ caller group sink shown. Unit {0};
  blocks = true;
}
