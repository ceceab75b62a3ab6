-- What a run is: callers of a new ruler execute the commands, and the ruler is closed.
use Rattle.std.specs.Prelude.{◌≡◌, ◌⊎◌, ℕ, true, false, Bool, List, [], ◌∷◌, length, map, Option, None, Some, Result, Ok, Err, if◌then◌else◌}
use Rattle.std.specs.List.{AllByRecursion, AllZip}
use Rattle.rl_audit.specs.Founded.{AreFromScratch, IsAudited}
use Rattle.rl_audit.specs.Merged.{AreMerged, AreNoted}
use Rattle.rl_callers.specs.Blocks.{ExecutesAll}
use Rattle.rl_callers.specs.Callers.{CallerView, caller_calls}
use Rattle.rl_callers.specs.Names.{close_fault_name}
use Rattle.rl_rules.specs.declared.rule.Group.{Group}
use Rattle.rl_session.specs.Engine.{Calls, Listed, calls_below}
use Rattle.rl_session.specs.Printed.{closed_line, not_closed_line}
use Rattle.rl_session.specs.Printer.{Printing}
use Rattle.rl_session.specs.Pumping.{pumping_calls}
use Rattle.rl_session.specs.Session.{IsEnded, ended_by}
use Rattle.rl_session.specs.declared.pumping.Pumping.{Pumping}
use Rattle.rl_session.specs.declared.session.RunError.{RunError}
use Rattle.rl_session.specs.declared.session.Status.{Status}
use Rattle.rl_session.specs.declared.session.Status.TheVariants as statuses
use Rattle.rl_shard.specs.ShardFault.{IsHonest}
use Rattle.rl_shard.specs.ShardState.{ShardView}
use Rattle.rl_sinks.specs.SinkState.{SinkState}
use Rattle.rl_sinks.specs.declared.sink.SinkKind.{SinkKind}
use Rattle.rl_sinks.specs.declared.sink.SinkKind.TheVariants as kinds
use Rattle.rl_workers.specs.Closing.{unclosed_in, AreClosed}
use Rattle.rl_workers.specs.Receipts.{PassView}
use Rattle.rl_workers.specs.declared.fault.CloseFault.{CloseFault}
use Rattle.rl_world.specs.WorldState.{BookState}
use Rattle.rule_shell.specs.declared.counting.Counting.{Counting}
use Rattle.rule_shell.specs.declared.options.Plan.{Plan}
use Rattle.rule_shell.specs.declared.options.SinkOptions.{SinkOptions}

-- a sink that has taken nothing, and keeps so many texts, if not all
abbrev pub new_sink : SinkKind → Option ℕ → SinkState
new_sink kind limit = record { kind = kind; limit = limit; count = 0; kept = []; closed = false; refusals = 0; pumps = 0; failed = false }

-- the sinks of a group: a recorder, and a notifier and a tail where all are asked for
abbrev pub sinks_asked : SinkOptions → List SinkState
sinks_asked asked = new_sink kinds.Recorder None ∷ (if asked.all then new_sink kinds.Notifier None ∷ new_sink kinds.Tail (Some asked.tail) ∷ [] else [])

-- groups as callers know them, each with so many sinks
abbrev pub listed_groups : (sinks : ℕ) → List Group → List Listed
listed_groups sinks groups = map (λ group. record { name = group.name; sinks = sinks }) groups

-- a caller after whose evaluations sinks may catch up, which is counted
abbrev pub Asking : Type 0
Asking = Counting (Pumping CallerView)

abbrev pub asking_calls : Calls Asking
asking_calls = calls_below (λ asking. asking.engine) (pumping_calls (λ asking. asking.engine) (λ asking. asking.pumps) caller_calls)

-- such a caller as a run begins
pub record IsBegun (pumps : Bool) (shards : ℕ) (groups : List Listed) (pass : PassView) (asking : Asking) : Type 0 where
  pub caller : asking.engine.engine ≡ record { pass = pass; shards = shards; groups = groups }
  pub catches_up : asking.engine.pumps ≡ pumps

-- the lines and blocks of a text are executed by callers, one for each pass; after each evaluation sinks catch up where that is asked for
abbrev pub RunsWith : (pumps : Bool) (shards : ℕ) → List Listed → List PassView → List ℕ → Printing → Result Bool RunError → Printing → List PassView → Type 0
RunsWith pumps shards groups passes commands before refused after lefts =
    (olds : List Asking) × (news : List Asking) × AllZip (IsBegun pumps shards groups) passes olds × ExecutesAll asking_calls olds commands before refused after news × (lefts ≡ map (λ asking. asking.engine.engine.pass) news)

-- a ruler is closed with passes: its journals are what the receipts say, its histories what the notes say, each evaluation stands on
-- records of the journals and, over honest stores, is LogQL from scratch, and so many sinks could not write all
pub record IsClosedWith (passes : List PassView) (failed : ℕ) : Type 0 where
  pub shards : List ShardView
  pub books : List BookState
  pub merged : AreMerged (map (λ shard. shard.journal) shards) (map (λ pass. pass.receipts) passes)
  pub noted : AreNoted (map (λ book. book.history.items) books) (map (λ pass. pass.notes) passes)
  pub audited : AllByRecursion (IsAudited (map (λ shard. shard.journal) shards)) books
  pub from_scratch : AllByRecursion IsHonest shards → AllByRecursion (AreFromScratch shards) books
  pub closed : AreClosed books
  pub unclosed : failed ≡ length (unclosed_in 0 books)

-- a run's end: the ruler is closed, or it is not, and that is printed; where the lines stopped for an error it is that
abbrev pub Ends : List PassView → Result Bool RunError → Printing → Result Status RunError → Printing → Type 0
Ends passes (Ok refused) before result after =
    ((failed : ℕ) × IsClosedWith passes failed × IsEnded closed_line (ended_by failed refused) before result after)
    ⊎ ((fault : CloseFault) × IsEnded (not_closed_line (close_fault_name fault)) statuses.Refused before result after)
Ends passes (Err error) before result after = (result ≡ Err error) × (after ≡ before)

-- the commands are executed by callers of a new ruler over so many shards, which begin with nothing, and the ruler is closed
pub record IsRun (pumps : Bool) (shards callers : ℕ) (groups : List Listed) (commands : List ℕ) (before after : Printing) (status : Status) : Type 0 where
  pub passes : List PassView
  pub each : length passes ≡ callers
  pub fresh : AllByRecursion (λ pass. (pass.receipts ≡ []) × (pass.notes ≡ [])) passes
  pub refused : Bool
  pub middle : Printing
  pub lefts : List PassView
  pub runs : RunsWith pumps shards groups passes commands before (Ok refused) middle lefts
  pub ends : Ends lefts (Ok refused) middle (Ok status) after

abbrev pub IsRunOf : Plan → (shards : ℕ) → List Group → List ℕ → Printing → Printing → Status → Type 0
IsRunOf plan shards groups commands before after status = IsRun plan.pumps shards plan.callers (listed_groups (length (sinks_asked plan.sinks)) groups) commands before after status
