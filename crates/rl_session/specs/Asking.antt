-- What a command asks of an engine, call after call, and its result.
use Rattle.std.specs.Prelude.{◌≡◌, ℕ, zero, suc, ⊤, Bool, true, false, List, [], ◌∷◌, ◌++◌, map, length, Option, None, Some, Result, Ok, Err, IfOk}
use Rattle.rl_plain.specs.declared.refusal.OrMemory.{OrMemory}
use Rattle.rl_plain.specs.declared.refusal.OrMemory.TheVariants as errors
use Rattle.rl_labels.specs.declared.entry.Entry.{Entry}
use Rattle.rl_deletes.specs.Deletes.{with_selector}
use Rattle.rl_deletes.specs.declared.deletion.Deletion.{Deletion}
use Rattle.rl_rules.specs.declared.rule.Group.{Group}
use Rattle.rl_query.specs.declared.filter.Sieve.{Sieve}
use Rattle.rl_query.specs.declared.fault.QueryFault.{QueryFault}
use Rattle.rl_selector_text.specs.Answering.{Reads}
use Rattle.rl_query.specs.Form.{sieve_form}
use Rattle.rl_selector_text.specs.Sieving.{sieve_of, sieve_meets_pattern}
use Rattle.rl_records.specs.declared.step.ShardReply.{ShardReply}
use Rattle.rl_records.specs.declared.step.ShardStep.{ShardStep}
use Rattle.rl_records.specs.declared.step.ShardStep.TheVariants as shard_steps
use Rattle.rl_world.specs.declared.fault.Refusal.{Refusal}
use Rattle.rl_world.specs.declared.fault.Refusal.TheVariants as refusals
use Rattle.rl_world.specs.declared.step.Committed.{Committed}
use Rattle.rl_session.specs.Edits.{GivesOneGroup}
use Rattle.rl_session.specs.Engine.{Calls, Shown, number_named}
use Rattle.rl_session.specs.PushForms.{EntryForm, entry_form}
use Rattle.rl_session.specs.declared.edit.EditRefusal.{EditRefusal}
use Rattle.rl_session.specs.declared.edit.EditRefusal.TheVariants as causes
use Rattle.rl_session.specs.declared.push.PushFault.{PushFault}
use Rattle.rl_session.specs.declared.output.CommandResult.{CommandResult}
use Rattle.rl_session.specs.declared.output.CommandResult.TheVariants as command_results

-- an edit that was refused by the engine
abbrev pub refusal_of_edit : Result ⊤ Refusal → Result ⊤ EditRefusal
refusal_of_edit (Ok done) = Ok done
refusal_of_edit (Err refusal) = Err (causes.Engine refusal)

-- the selector with line filters that a text is, or why it is none
abbrev pub SelectsIn : List ℕ → Result Sieve (OrMemory QueryFault) → Type 0
SelectsIn text result = Reads sieve_form result (sieve_of text) (sieve_meets_pattern text)

module _ {E : Type 0} (calls : Calls E) where
  -- entries are handed in one after the other, each with an answer of its own
  abbrev pub PushesAll : E → List Entry → List (Result ShardReply Refusal) → E → Type 0
  PushesAll old [] [] new = new ≡ old
  PushesAll old (entry ∷ entries) (answer ∷ answers) new = (mid : E) × calls.pushes old entry answer mid × PushesAll mid entries answers new
  PushesAll old entries answers new = ⊥

  -- of a body with entries each is handed in, or none where memory runs out; of another nothing is asked
  abbrev pub IsForPush : E → Result (List EntryForm) PushFault → CommandResult → E → Type 0
  IsForPush old read (command_results.Unread errors.Memory) new = new ≡ old
  IsForPush old (Ok forms) (command_results.Pushed answers) new = (entries : List Entry) × (map entry_form entries ≡ forms) × PushesAll old entries answers.items new
  IsForPush old (Ok forms) (command_results.Unpushed count) new = (count ≡ length forms) × (new ≡ old)
  IsForPush old (Err fault) (command_results.Unread (errors.Fault other)) new = (other ≡ fault) × (new ≡ old)
  IsForPush old read command_result new = ⊥

  -- each shard is asked for a step
  abbrev pub IsForAll : E → ShardStep → CommandResult → E → Type 0
  IsForAll old step (command_results.Asked result) new = calls.asks_all old step result new
  IsForAll old step command_result new = ⊥

  -- each shard is asked to receive a request with the selector's sieve, if the text is such a selector
  abbrev pub IsForDelete : E → Deletion (List ℕ) → CommandResult → E → Type 0
  IsForDelete old deletion (command_results.Asked result) new = (sieve : Sieve) × SelectsIn deletion.selector (Ok sieve) × calls.asks_all old (shard_steps.Delete (with_selector sieve deletion)) result new
  IsForDelete old deletion (command_results.NoSelector error) new = SelectsIn deletion.selector (Err error) × (new ≡ old)
  IsForDelete old deletion command_result new = ⊥

  -- a group is evaluated, and what is answered is of that moment
  abbrev pub EvaluatesAt : E → ℕ → ℕ → Result Committed Refusal → E → Type 0
  EvaluatesAt old group t answer new = calls.evaluates old group t answer new × IfOk answer (λ committed. committed.evaluation.t ≡ t)

  -- a group that is due is evaluated, another is passed over
  abbrev pub IsTurn : Bool → E → ℕ → ℕ → (E → List (Result Committed Refusal) → Type 0) → List (Result Committed Refusal) → Type 0
  IsTurn true old now group Rest results = (answer : Result Committed Refusal) × (mid : E) × (rest : List (Result Committed Refusal)) × EvaluatesAt old group now answer mid × (results ≡ answer ∷ rest) × Rest mid rest
  IsTurn false old now group Rest results = Rest old results

  -- a number of groups, from one on, are asked in their order whether they are due, and those that are give these results
  abbrev pub EvaluatesDue : E → ℕ → ℕ → ℕ → List (Result Committed Refusal) → E → Type 0
  EvaluatesDue old now group zero results new = (results ≡ []) × (new ≡ old)
  EvaluatesDue old now group (suc left) results new = (due : Bool) × calls.is_due old group now due × IsTurn due old now group (λ mid rest. EvaluatesDue mid now (suc group) left rest new) results

  -- one group takes its turn, and what it gives follows what others gave
  abbrev pub TakesTurn : E → ℕ → ℕ → List (Result Committed Refusal) → List (Result Committed Refusal) → E → Type 0
  TakesTurn old now group before after new = (due : Bool) × (more : List (Result Committed Refusal)) × calls.is_due old group now due × IsTurn due old now group (λ mid rest. (rest ≡ []) × (new ≡ mid)) more × (after ≡ before ++ more)

  -- all groups are; or none where memory runs out
  abbrev pub IsForTick : E → ℕ → CommandResult → E → Type 0
  IsForTick old now (command_results.Ticked results) new = EvaluatesDue old now 0 (length (calls.groups old)) results.items new
  IsForTick old now (command_results.Evaluated (Err refusal)) new = (refusal ≡ refusals.Memory) × (new ≡ old)
  IsForTick old now command_result new = ⊥

  -- the group at the number is evaluated, if there is one
  abbrev pub IsForEvaluation : E → ℕ → Option ℕ → CommandResult → E → Type 0
  IsForEvaluation old t (Some group) (command_results.Evaluated answer) new = EvaluatesAt old group t answer new
  IsForEvaluation old t None command_results.Refused new = new ≡ old
  IsForEvaluation old t number command_result new = ⊥

  -- the sinks of the group at the number catch up, if there is one
  abbrev pub IsForCatchUp : E → Option ℕ → CommandResult → E → Type 0
  IsForCatchUp old (Some group) (command_results.CaughtUp answer) new = calls.catches_up old group answer new
  IsForCatchUp old None command_results.Refused new = new ≡ old
  IsForCatchUp old number command_result new = ⊥

  -- the group at the number is edited, if there is one
  abbrev pub PutsAt : E → Option ℕ → Group → Result ⊤ EditRefusal → E → Type 0
  PutsAt old (Some group) to result new = (answer : Result ⊤ Refusal) × calls.edits old group to answer new × (result ≡ refusal_of_edit answer)
  PutsAt old None to result new = (result ≡ Err causes.NoSuchGroup) × (new ≡ old)

  abbrev pub PutsGroup : E → Group → Result ⊤ EditRefusal → E → Type 0
  PutsGroup old to result new = PutsAt old (number_named to.name (calls.groups old)) to result new

  -- the one group of a document replaces the one with its name; where the document has not one, nothing is asked
  abbrev pub EditsRead : E → Result Group EditRefusal → Result ⊤ EditRefusal → E → Type 0
  EditsRead old (Ok to) result new = PutsGroup old to result new
  EditsRead old (Err refusal) result new = (result ≡ Err refusal) × (new ≡ old)

  abbrev pub IsForEdit : E → List ℕ → CommandResult → E → Type 0
  IsForEdit old document (command_results.Edited result) new = (read : Result Group EditRefusal) × GivesOneGroup document read × EditsRead old read result new
  IsForEdit old document command_result new = ⊥

  -- what the sink of the group at the number has, if there is such a group
  abbrev pub IsForShow : E → Option ℕ → ℕ → Option Shown → Type 0
  IsForShow engine (Some group) sink shown = calls.shows engine group sink shown
  IsForShow engine None sink shown = shown ≡ None
