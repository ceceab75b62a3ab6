-- What a session prints over an engine, line after line, and how it ends.
use Rattle.std.specs.Prelude.{◌≡◌, ◌⊎◌, ℕ, nat_lt, Bool, true, false, ◌||◌, List, [], ◌∷◌, ◌++◌, Option, None, Some, Result, Ok, Err, IfOk, OnErr, if◌then◌else◌}
use Rattle.std.specs.Borrow.{Bor}
use Rattle.std.specs.List.{list_all}
use Rattle.std.specs.Option.{option_copied}
use Rattle.std.specs.declared.io.Error.{Error}
use Rattle.rl_records.specs.declared.step.ShardStep.TheVariants as shard_steps
use Rattle.rl_session.specs.Asking.{IsForPush, IsForAll, IsForDelete, IsForEdit, IsForTick, IsForCatchUp, IsForEvaluation, IsForShow}
use Rattle.rl_session.specs.Command.{Asked, pushes, cuts, flushes, deletes, cancels, processes, retains, edits, evaluates, ticks, pumps, shows, blocks, ends, command_in_block, command_of, is_blank_byte}
use Rattle.rl_session.specs.Engine.{Calls, IsAnswered, Shown, number_named}
use Rattle.rl_session.specs.Front.{lines_of}
use Rattle.rl_session.specs.Printed.{shown_text, shown_answer, printed, answer_to, closed_line}
use Rattle.rl_session.specs.Printer.{Printing, Prints, HoldsFront, IsAllPrinted, IsCutOff}
use Rattle.rl_session.specs.PushBody.{entries_of}
use Rattle.rl_session.specs.declared.session.RunError.{RunError}
use Rattle.rl_session.specs.declared.session.RunError.TheVariants.{WriteFault}
use Rattle.rl_session.specs.declared.session.Status.{Status}
use Rattle.rl_session.specs.declared.session.Status.TheVariants as statuses
use Rattle.rl_session.specs.declared.session.Stopped.{Stopped}
use Rattle.rl_session.specs.declared.session.StoppedAt.{StoppedAt}
use Rattle.rl_session.specs.declared.session.StoppedAt.TheVariants as stops
use Rattle.rl_session.specs.declared.output.Answer.{Answer}
use Rattle.rl_session.specs.declared.output.Answer.TheVariants.{Taken, Refused, Block, Ended}
use Rattle.rl_session.specs.declared.output.CommandResult.{CommandResult}
use Rattle.rl_session.specs.declared.output.CommandResult.TheVariants as command_results

-- where lines stop at an answer, with what text after it, if they do
abbrev pub stop_at : Answer → Option (Bor (List ℕ)) → Option StoppedAt
stop_at Ended following = Some stops.End
stop_at Block following = Some (stops.Block following)
stop_at _ following = None

abbrev pub is_refusal : Answer → Bool
is_refusal Refused = true
is_refusal _ = false

-- how a session ends that was closed: by how many sinks could not write all, and whether a line was refused
abbrev pub ended_by : ℕ → Bool → Status
ended_by failures refused = if nat_lt 0 failures then statuses.Unwritten else (if refused then statuses.Refused else statuses.Taken)

abbrev pub IsPrinted : CommandResult → List ℕ → Answer → Type 0
IsPrinted command_result text answer = (text ≡ printed command_result) × (answer ≡ answer_to command_result)

-- what is shown of a sink prints, and what becomes of the command
abbrev pub IsShown : Option Shown → List ℕ → Answer → Type 0
IsShown shown text answer = (text ≡ shown_text shown) × (answer ≡ shown_answer shown)

-- the lines of a text, none where there is no text
abbrev pub lines_left : Option (List ℕ) → List (List ℕ)
lines_left None = []
lines_left (Some text) = lines_of text

-- where lines stopped that one began a block after: the lines after it; none where they came to an end
abbrev pub stopped_before : StoppedAt → Option (List (List ℕ))
stopped_before stops.End = None
stopped_before (stops.Block following) = Some (lines_left (option_copied following))

-- the text of lines, whether one was refused, and the lines after one that begins a block, by the first of them: after that one, and
-- after an end, no line is looked at
abbrev pub IsRestExecuted : {E : Type 0} → E → Answer → List ℕ → List (List ℕ) → (List ℕ → Bool → Option (List (List ℕ)) → E → Type 0) → List ℕ → Bool → Option (List (List ℕ)) → E → Type 0
IsRestExecuted mid Ended first lines AreExecuted text refused left new = (text ≡ first) × (refused ≡ false) × (left ≡ None) × (new ≡ mid)
IsRestExecuted mid Block first lines AreExecuted text refused left new = (text ≡ first) × (refused ≡ false) × (left ≡ Some lines) × (new ≡ mid)
IsRestExecuted mid here first lines AreExecuted text refused left new = (rest : List ℕ) × (later : Bool) × AreExecuted rest later left new × (text ≡ first ++ rest) × (refused ≡ (is_refusal here || later))

-- a line that would begin a block: it does where the engine takes blocks, else it is refused
abbrev pub IsBlockBegun : {E : Type 0} → Bool → E → List ℕ → Answer → E → Type 0
IsBlockBegun true old text answer new = (text ≡ []) × (answer ≡ Block) × (new ≡ old)
IsBlockBegun false old text answer new = IsPrinted command_results.Refused text answer × (new ≡ old)

module _ {E : Type 0} (calls : Calls E) where
  -- a command: what it prints, and what becomes of it, follows from the engine's result for its own words
  abbrev pub IsExecuted : E → Option Asked → List ℕ → Answer → E → Type 0
  IsExecuted old None text answer new = IsPrinted command_results.Refused text answer × (new ≡ old)
  IsExecuted old (Some (pushes json)) text answer new = (command_result : CommandResult) × IsForPush calls old (entries_of json) command_result new × IsPrinted command_result text answer
  IsExecuted old (Some cuts) text answer new = (command_result : CommandResult) × IsForAll calls old shard_steps.Cut command_result new × IsPrinted command_result text answer
  IsExecuted old (Some flushes) text answer new = (command_result : CommandResult) × IsForAll calls old shard_steps.Flush command_result new × IsPrinted command_result text answer
  IsExecuted old (Some (deletes deletion)) text answer new = (command_result : CommandResult) × IsForDelete calls old deletion command_result new × IsPrinted command_result text answer
  IsExecuted old (Some (cancels id)) text answer new = (command_result : CommandResult) × IsForAll calls old (shard_steps.Cancel id) command_result new × IsPrinted command_result text answer
  IsExecuted old (Some (processes id now)) text answer new = (command_result : CommandResult) × IsForAll calls old (shard_steps.Process id now) command_result new × IsPrinted command_result text answer
  IsExecuted old (Some (retains now)) text answer new = (command_result : CommandResult) × IsForAll calls old (shard_steps.Retain now) command_result new × IsPrinted command_result text answer
  IsExecuted old (Some (edits document)) text answer new = (command_result : CommandResult) × IsForEdit calls old document command_result new × IsPrinted command_result text answer
  IsExecuted old (Some (ticks now)) text answer new = (command_result : CommandResult) × IsForTick calls old now command_result new × IsPrinted command_result text answer
  IsExecuted old (Some (evaluates t group)) text answer new = (command_result : CommandResult) × IsForEvaluation calls old t (number_named group (calls.groups old)) command_result new × IsPrinted command_result text answer
  IsExecuted old (Some (pumps group)) text answer new = (command_result : CommandResult) × IsForCatchUp calls old (number_named group (calls.groups old)) command_result new × IsPrinted command_result text answer
  IsExecuted old (Some (shows sink group)) text answer new = (shown : Option Shown) × IsForShow calls old (number_named group (calls.groups old)) sink shown × IsShown shown text answer × (new ≡ old)
  IsExecuted old (Some blocks) text answer new = IsBlockBegun calls.blocks old text answer new
  IsExecuted old (Some ends) text answer new = (text ≡ []) × (answer ≡ Ended) × (new ≡ old)

  -- a line: nothing where it is blank, else its command
  abbrev pub IsLineExecuted : E → Bool → List ℕ → List ℕ → Answer → E → Type 0
  IsLineExecuted old true line text answer new = (text ≡ []) × (answer ≡ Taken) × (new ≡ old)
  IsLineExecuted old false line text answer new = IsExecuted old (command_of line) text answer new

  -- lines: each is answered in its order, up to an end, or up to one that begins a block: then there are lines left
  abbrev pub AreLinesExecuted : E → List (List ℕ) → List ℕ → Bool → Option (List (List ℕ)) → E → Type 0
  AreLinesExecuted old [] text refused left new = (text ≡ []) × (refused ≡ false) × (left ≡ None) × (new ≡ old)
  AreLinesExecuted old (line ∷ lines) text refused left new = (first : List ℕ) × (here : Answer) × (mid : E) × IsLineExecuted old (list_all is_blank_byte line) line first here mid × IsRestExecuted mid here first lines (AreLinesExecuted mid lines) text refused left new

  -- a command is executed, and its text printed
  abbrev pub Executes : E → Option Asked → Printing → Answer → Printing → E → Type 0
  Executes old asked before result after new = (text : List ℕ) × (answer : Answer) × IsExecuted old asked text answer new × IsAnswered answer text before result after

  -- a sink is shown
  abbrev pub ShowsTo : E → Option ℕ → ℕ → Printing → Answer → Printing → Type 0
  ShowsTo engine group sink before result after = (shown : Option Shown) × IsForShow calls engine group sink shown × IsAnswered (shown_answer shown) (shown_text shown) before result after

  -- a line is executed, and its text printed; where a write failed, a front of what was asked for is written
  abbrev pub ExecutesLine : E → List ℕ → Printing → Result Answer Error → Printing → E → Type 0
  ExecutesLine old line before result after new = (text : List ℕ) × (answer : Answer) × IsLineExecuted old (list_all is_blank_byte line) line text answer new × Prints before text after × IfOk result (λ given. given ≡ answer) × OnErr result (HoldsFront after)

  -- the command of a line of a block is executed, or refused where a block may not have it, and its text printed
  abbrev pub ExecutesInBlock : E → List ℕ → Printing → Bool → Printing → E → Type 0
  ExecutesInBlock old line before refused after new = (text : List ℕ) × (answer : Answer) × IsExecuted old (command_in_block line) text answer new × (refused ≡ is_refusal answer) × Prints before text after

  -- the first so many of lines are executed, and no other
  abbrev pub FirstAreExecuted : E → List (List ℕ) → List ℕ → E → Type 0
  FirstAreExecuted old lines text new = (done : List (List ℕ)) × (left : List (List ℕ)) × (lines ≡ done ++ left) × (refused : Bool) × (block : Option (List (List ℕ))) × AreLinesExecuted old done text refused block new

  -- the lines of a text are executed, up to one that begins a block, and their text printed; or a write failed, and the first so many are
  abbrev pub ExecutesText : E → List ℕ → Printing → Result Stopped Error → Printing → E → Type 0
  ExecutesText old commands before (Ok stopped) after new = (text : List ℕ) × AreLinesExecuted old (lines_of commands) text stopped.refused (stopped_before stopped.at) new × Prints before text after
  ExecutesText old commands before (Err error) after new = (text : List ℕ) × FirstAreExecuted old (lines_of commands) text new × Prints before text after × HoldsFront after

-- what ends a session is printed, and all that was printed before is written; or a write failed
abbrev pub IsEnded : List ℕ → Status → Printing → Result Status RunError → Printing → Type 0
IsEnded text ending before (Ok status) after = (status ≡ ending) × Prints before text after × (after.held ≡ after.asked)
IsEnded text ending before (Err error) after = (error ≡ WriteFault) × Prints before text after × HoldsFront after

module _ {E : Type 0} (calls : Calls E) (Closes : E → ℕ → E → Type 0) where
  -- a session whose lines are executed, then the engine is closed, and what is printed in all
  abbrev pub AreAllExecuted : E → List ℕ → (List ℕ → Type 0) → Bool → ℕ → E → Type 0
  AreAllExecuted old commands IsPrinted refused failed new = (text : List ℕ) × (mid : E) × AreLinesExecuted calls old (lines_of commands) text refused None mid × Closes mid failed new × IsPrinted (text ++ closed_line)

  -- one whose first so many lines are, then the engine is closed, and what is printed of the lines
  abbrev pub AreFirstExecuted : E → List ℕ → (List ℕ → Type 0) → E → Type 0
  AreFirstExecuted old commands IsPrinted new = (text : List ℕ) × (mid : E) × (failed : ℕ) × FirstAreExecuted calls old (lines_of commands) text mid × Closes mid failed new × IsPrinted text

  -- a session: its lines are executed, then the engine is closed, and all of that is printed; or a write failed, at the first so
  -- many lines, after which the engine is closed, or at the last line, and what is printed is the beginning of what these print
  abbrev pub ExecutesSession : E → List ℕ → Printing → Result Status RunError → Printing → E → Type 0
  ExecutesSession old commands before (Ok status) after new = (refused : Bool) × (failed : ℕ) × (status ≡ ended_by failed refused) × AreAllExecuted old commands (λ text. IsAllPrinted before text after) refused failed new
  ExecutesSession old commands before (Err error) after new = (error ≡ WriteFault) × (AreFirstExecuted old commands (λ text. IsCutOff before text after) new ⊎ ((refused : Bool) × (failed : ℕ) × AreAllExecuted old commands (λ text. IsCutOff before text after) refused failed new))
