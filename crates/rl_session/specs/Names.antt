-- The names under which faults and refusals are printed: those of their variants, without what they hold.
use Rattle.std.specs.Prelude.{ℕ, List, Option, None, Some, Result, Ok, Err, codes}
use Rattle.rl_plain.specs.declared.refusal.OrMemory.{OrMemory}
use Rattle.rl_plain.specs.declared.refusal.OrMemory.TheVariants as errors
use Rattle.rl_query.specs.declared.fault.QueryFault.{QueryFault}
use Rattle.rl_query.specs.declared.fault.QueryFault.TheVariants as query_faults
use Rattle.rl_rules.specs.declared.fault.RulesFault.{RulesFault}
use Rattle.rl_rules.specs.declared.fault.RulesFault.TheVariants as rules
use Rattle.rl_records.specs.declared.step.ShardReply.{ShardReply}
use Rattle.rl_records.specs.declared.step.ShardReply.TheVariants as replies
use Rattle.rl_world.specs.declared.fault.BookFault.{BookFault}
use Rattle.rl_world.specs.declared.fault.BookFault.TheVariants as books
use Rattle.rl_world.specs.declared.fault.Refusal.{Refusal}
use Rattle.rl_world.specs.declared.fault.Refusal.TheVariants as refusals
use Rattle.rl_session.specs.declared.front.fault.FrontFault.{FrontFault}
use Rattle.rl_session.specs.declared.front.fault.FrontFault.TheVariants as fronts
use Rattle.rl_session.specs.declared.edit.EditRefusal.{EditRefusal}
use Rattle.rl_session.specs.declared.edit.EditRefusal.TheVariants as edits
use Rattle.rl_session.specs.declared.push.PushFault.{PushFault}
use Rattle.rl_session.specs.declared.push.PushFault.TheVariants as pushes

-- a push body's fault
abbrev pub push_error_name : OrMemory PushFault → List ℕ
push_error_name (errors.Fault pushes.NotJson) = codes "NotJson"
push_error_name (errors.Fault pushes.Shape) = codes "Shape"
push_error_name (errors.Fault pushes.Label) = codes "Label"
push_error_name (errors.Fault pushes.Time) = codes "Time"
push_error_name (errors.Fault pushes.Line) = codes "Line"
push_error_name (errors.Fault pushes.Metadata) = codes "Metadata"
push_error_name errors.Memory = codes "Memory"

-- a rule file's fault
abbrev pub rules_fault_name : RulesFault → List ℕ
rules_fault_name rules.BadToml = codes "BadToml"
rules_fault_name rules.UnknownKey = codes "UnknownKey"
rules_fault_name rules.MissingKey = codes "MissingKey"
rules_fault_name (rules.BadQuery _ _ _) = codes "BadQuery"
rules_fault_name rules.BadName = codes "BadName"
rules_fault_name rules.SameGroup = codes "SameGroup"
rules_fault_name rules.TooMany = codes "TooMany"

-- an input's fault, or that of its rules
abbrev pub front_fault_name : FrontFault → List ℕ
front_fault_name fronts.ReadFault = codes "ReadFault"
front_fault_name fronts.TooLong = codes "TooLong"
front_fault_name fronts.NotText = codes "NotText"
front_fault_name fronts.NoMark = codes "NoMark"
front_fault_name (fronts.Rules fault) = rules_fault_name fault

-- a book's fault
abbrev pub book_fault_name : BookFault → List ℕ
book_fault_name books.Busy = codes "Busy"
book_fault_name (books.MomentNotLater _) = codes "MomentNotLater"
book_fault_name books.NotOpen = codes "NotOpen"
book_fault_name books.AlreadyGathered = codes "AlreadyGathered"
book_fault_name books.Incomplete = codes "Incomplete"
book_fault_name books.SessionFull = codes "SessionFull"

-- a refusal, or the fault of the book
abbrev pub refusal_name : Refusal → List ℕ
refusal_name refusals.NoSuch = codes "NoSuch"
refusal_name (refusals.Book fault) = book_fault_name fault
refusal_name refusals.JournalFull = codes "JournalFull"
refusal_name refusals.Fault = codes "Fault"
refusal_name refusals.Damaged = codes "Damaged"
refusal_name refusals.NumbersSpent = codes "NumbersSpent"
refusal_name refusals.Memory = codes "Memory"

-- a rule file's fault, or lack of memory
abbrev pub rules_error_name : OrMemory RulesFault → List ℕ
rules_error_name (errors.Fault fault) = rules_fault_name fault
rules_error_name errors.Memory = codes "Memory"

-- why a group was not edited
abbrev pub edit_refusal_name : EditRefusal → List ℕ
edit_refusal_name (edits.Rules error) = rules_error_name error
edit_refusal_name edits.NotOneGroup = codes "NotOneGroup"
edit_refusal_name edits.NoSuchGroup = codes "NoSuchGroup"
edit_refusal_name (edits.Engine refusal) = refusal_name refusal

-- why a text is no selector with line filters
abbrev pub query_error_name : OrMemory QueryFault → List ℕ
query_error_name (errors.Fault (query_faults.Syntax _)) = codes "Syntax"
query_error_name (errors.Fault (query_faults.Unsupported _)) = codes "Unsupported"
query_error_name (errors.Fault query_faults.NoRealMatcher) = codes "NoRealMatcher"
query_error_name (errors.Fault query_faults.BadRange) = codes "BadRange"
query_error_name (errors.Fault query_faults.BadRegex) = codes "BadRegex"
query_error_name (errors.Fault query_faults.TooDeep) = codes "TooDeep"
query_error_name (errors.Fault query_faults.TwoParsers) = codes "TwoParsers"
query_error_name errors.Memory = codes "Memory"

-- why a shard did not take an entry, or a request
abbrev pub shard_refusal : ShardReply → Option (List ℕ)
shard_refusal (replies.Expired _) = Some (codes "Expired")
shard_refusal (replies.TooFarBehind _) = Some (codes "TooFarBehind")
shard_refusal replies.Full = Some (codes "Full")
shard_refusal replies.IdTaken = Some (codes "IdTaken")
shard_refusal replies.RequestsFull = Some (codes "RequestsFull")
shard_refusal replies.NoSuchRequest = Some (codes "NoSuchRequest")
shard_refusal replies.AlreadyProcessed = Some (codes "AlreadyProcessed")
shard_refusal replies.WasCancelled = Some (codes "WasCancelled")
shard_refusal replies.TooEarly = Some (codes "TooEarly")
shard_refusal _ = None

-- why a push was refused, by the shard or before it
abbrev pub push_refusal : Result ShardReply Refusal → Option (List ℕ)
push_refusal (Ok reply) = shard_refusal reply
push_refusal (Err refusal) = Some (refusal_name refusal)
