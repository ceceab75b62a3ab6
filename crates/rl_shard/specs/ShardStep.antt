-- What a shard answers to a step, and what it holds afterwards.
use Rattle.std.specs.Prelude.{◌≡◌, ◌⊎◌, ℕ, ◌+◌, ◌==◌, nat_lt, nat_le, Bool, List, map, length, if◌then◌else◌, Option, None, Some}
use Rattle.std.specs.Option.{MatchOption, is_none, option_map, unwrap_or}
use Rattle.std.specs.List.{AllByRecursion}
use Rattle.std.specs.FinMap.{insert, contains_key, len}
use Rattle.rl_labels.specs.EntryOrder.{EntrySet}
use Rattle.rl_labels.specs.LabelSet.{LabelSet}
use Rattle.rl_labels.specs.declared.entry.Entry.{Entry}
use Rattle.rl_labels.specs.declared.limits.Limits.{Limits}
use Rattle.rl_aggregate.specs.Limited.{IsWithin}
use Rattle.rl_aggregate.specs.Partials.{partial}
use Rattle.rl_aggregate.specs.declared.partial.Partial.{Partial}
use Rattle.rl_deletes.specs.Deletes.{RequestsView, asked, cancel_fault, cancelled, covers_one, most_requests, process_fault, processed, received, received_at, IsReceiveFault}
use Rattle.rl_deletes.specs.Horizons.{advanced, is_below}
use Rattle.rl_deletes.specs.declared.fault.CancelFault.{CancelFault}
use Rattle.rl_deletes.specs.declared.fault.CancelFault.TheVariants as cancelling
use Rattle.rl_deletes.specs.declared.fault.ProcessFault.{ProcessFault}
use Rattle.rl_deletes.specs.declared.fault.ProcessFault.TheVariants as processing
use Rattle.rl_deletes.specs.declared.fault.ReceiveFault.{ReceiveFault}
use Rattle.rl_deletes.specs.declared.fault.ReceiveFault.TheVariants as receiving
use Rattle.rl_deletes.specs.declared.request.Request.{Request}
use Rattle.rl_streams.specs.Rewritten.{without}
use Rattle.rl_streams.specs.StreamRows.{newest_at, raised}
use Rattle.rl_streams.specs.StreamsState.{is_far_behind}
use Rattle.rl_shard.specs.ShardState.{ShardState, Journalled, visible}
use Rattle.rl_records.specs.declared.step.ShardStep.{ShardStep}
use Rattle.rl_records.specs.declared.step.ShardStep.TheVariants as steps
use Rattle.rl_records.specs.declared.step.ShardReply.{ShardReply}
use Rattle.rl_records.specs.declared.step.ShardReply.TheVariants as replies

-- the newest timestamp of a stream, 0 for a new one
abbrev pub newest_of : ShardState → LabelSet → ℕ
newest_of shard labels = newest_at shard.newest labels

abbrev pub is_expired : ShardState → Entry → Bool
is_expired shard entry = nat_lt entry.timestamp shard.horizon

-- older than the newest of its stream by more than half of the age of a chunk
abbrev pub is_too_far_behind : Limits → ShardState → Entry → Bool
is_too_far_behind limits shard entry = is_far_behind limits entry (newest_of shard entry.labels)

abbrev pub is_full : Limits → ShardState → Bool
is_full limits shard = nat_le limits.entries (len shard.held)

-- the answer to an entry that is too old, by the first that holds
abbrev pub age_answer : Limits → ShardState → Entry → Option ShardReply
age_answer limits shard entry =
    if is_expired shard entry then Some (replies.Expired shard.horizon)
    else (if is_too_far_behind limits shard entry then Some (replies.TooFarBehind (newest_of shard entry.labels))
    else None)

-- the answer to an entry that is not to be taken, by the first that holds; None where nothing speaks against the entry
abbrev pub push_answer : Limits → ShardState → Entry → Option ShardReply
push_answer limits shard entry =
    if is_expired shard entry then Some (replies.Expired shard.horizon)
    else (if is_too_far_behind limits shard entry then Some (replies.TooFarBehind (newest_of shard entry.labels))
    else (if contains_key shard.held entry then Some replies.Accepted
    else (if is_full limits shard then Some replies.Full
    else None)))

-- an entry that is taken is accepted
abbrev pub push_reply : Limits → ShardState → Entry → ShardReply
push_reply limits shard entry = unwrap_or (push_answer limits shard entry) replies.Accepted

-- nothing speaks against the entry, and it is new
abbrev pub is_taken : Limits → ShardState → Entry → Bool
is_taken limits shard entry = is_none (push_answer limits shard entry)

-- with the entry, and the newest of its stream
abbrev pub with_entry : ShardState → Entry → ShardState
with_entry shard entry = record { held = insert shard.held entry tt; newest = raised shard.newest entry.labels entry.timestamp; requests = shard.requests; horizon = shard.horizon }

abbrev pub pushed : Limits → ShardState → Entry → ShardState
pushed limits shard entry = if is_taken limits shard entry then with_entry shard entry else shard

-- REQUESTS AND RETENTION

-- what becomes of a request is answered so
abbrev pub reply_to_receive : Option ReceiveFault → ShardReply
reply_to_receive None = replies.Done
reply_to_receive (Some receiving.IdTaken) = replies.IdTaken
reply_to_receive (Some receiving.Full) = replies.RequestsFull

abbrev pub reply_to_cancel : Option CancelFault → ShardReply
reply_to_cancel None = replies.Done
reply_to_cancel (Some cancelling.NoSuchRequest) = replies.NoSuchRequest
reply_to_cancel (Some cancelling.AlreadyProcessed) = replies.AlreadyProcessed

abbrev pub reply_to_process : Option ProcessFault → ShardReply
reply_to_process None = replies.Done
reply_to_process (Some processing.NoSuchRequest) = replies.NoSuchRequest
reply_to_process (Some processing.WasCancelled) = replies.WasCancelled
reply_to_process (Some processing.TooEarly) = replies.TooEarly

-- the reply to a delete, as receiving its request is answered
pub record IsDeleteReply (requests : RequestsView) (id : ℕ) (request : Request) (reply : ShardReply) : Type 0 where
  pub fault : Option ReceiveFault
  pub is : IsReceiveFault requests id request fault
  pub answered : reply ≡ reply_to_receive fault

-- the requests after a delete: one more where its number is new and there is room
abbrev pub deleted : RequestsView → ℕ → Request → RequestsView
deleted requests id request = if nat_le most_requests (len requests.requests) then requests else received requests id request

-- the requests after a process that is refused so, or is not
abbrev pub processed_if : Option ProcessFault → RequestsView → ℕ → RequestsView
processed_if None requests id = processed requests id
processed_if (Some fault) requests id = requests

-- what a process removes that is refused so, or is not: what the request covers, if it is received
abbrev pub removed_if : Option ProcessFault → RequestsView → ℕ → Option (Entry → Bool)
removed_if None requests id = option_map covers_one (received_at requests id)
removed_if (Some fault) requests id = None

-- what retention removes at a moment: what is expired then, unless all is kept for ever
abbrev pub removed_by : Limits → (horizon now : ℕ) → Option (Entry → Bool)
removed_by limits horizon now = if limits.keep == 0 then None else Some (is_below (advanced limits.keep horizon now))

-- which entries a step removes, if it removes any
abbrev pub removes : Limits → ShardState → ShardStep → Option (Entry → Bool)
removes limits shard (steps.Process id now) = removed_if (process_fault shard.requests id now) shard.requests id
removes limits shard (steps.Retain now) = removed_by limits shard.horizon now
removes limits shard step = None

-- what is left of entries of which these are removed
abbrev pub left_of : Option (Entry → Bool) → EntrySet → EntrySet
left_of None held = held
left_of (Some covers) held = without covers held

-- the requests after a step
abbrev pub requests_after : ShardState → ShardStep → RequestsView
requests_after shard (steps.Delete deletion) = deleted shard.requests deletion.id (asked deletion)
requests_after shard (steps.Cancel id) = cancelled shard.requests id
requests_after shard (steps.Process id now) = processed_if (process_fault shard.requests id now) shard.requests id
requests_after shard step = shard.requests

-- the horizon after a step
abbrev pub horizon_after : Limits → ShardState → ShardStep → ℕ
horizon_after limits shard (steps.Retain now) = advanced limits.keep shard.horizon now
horizon_after limits shard step = shard.horizon

-- ANSWERS

-- what is answered to a step. A Collect has one partial for each term, of what the shard shows
abbrev pub IsReply : Limits → ShardState → ShardStep → ShardReply → Type 0
IsReply limits shard (steps.Push entry) reply = reply ≡ push_reply limits shard entry
IsReply limits shard steps.Cut reply = reply ≡ replies.Done
IsReply limits shard steps.Flush reply = reply ≡ replies.Done
IsReply limits shard (steps.Delete deletion) reply = IsDeleteReply shard.requests deletion.id (asked deletion) reply
IsReply limits shard (steps.Cancel id) reply = reply ≡ reply_to_cancel (cancel_fault shard.requests id)
IsReply limits shard (steps.Process id now) reply = reply ≡ reply_to_process (process_fault shard.requests id now)
IsReply limits shard (steps.Retain now) reply = reply ≡ replies.Done
IsReply limits shard (steps.Collect slot terms t) reply = reply ≡ replies.Collected (map (λ term. partial (visible shard) term t) terms)

-- what a step leaves. The newest timestamps are never lowered
abbrev pub stepped : Limits → ShardState → ShardStep → ShardState
stepped limits shard (steps.Push entry) = pushed limits shard entry
stepped limits shard step = record { held = left_of (removes limits shard step) shard.held; newest = shard.newest; requests = requests_after shard step; horizon = horizon_after limits shard step }

-- the journal has reached its limit of records
abbrev pub is_journal_full : Journalled → Bool
is_journal_full shard = nat_le shard.limits.records shard.records

-- a step that is decided makes a record
abbrev pub recorded : Journalled → ShardStep → Journalled
recorded shard step = record { limits = shard.limits; state = stepped shard.limits shard.state step; records = shard.records + 1 }

-- an entry that is not too old, over any store: it is accepted, whether it was held or is held now, or there is no room
abbrev pub IsTaken : ShardState → Entry → ShardReply → ShardState → Type 0
IsTaken old entry replies.Accepted new = (new ≡ old) ⊎ (new ≡ with_entry old entry)
IsTaken old entry replies.Full new = new ≡ old
IsTaken old entry other new = ⊥

-- one partial for each of that many terms, within what that many entries add up to
pub record AreWithin (entries terms : ℕ) (partials : List Partial) : Type 0 where
  pub each : length partials ≡ terms
  pub within : AllByRecursion (IsWithin entries) partials

-- a step that takes no entry, over any store: all is as it should be but what is held, and that too where nothing is removed
pub record IsLeft (limits : Limits) (old : ShardState) (step : ShardStep) (new : ShardState) : Type 0 where
  pub held : removes limits old step ≡ None → new.held ≡ old.held
  pub newest : new.newest ≡ old.newest
  pub requests : new.requests ≡ requests_after old step
  pub horizon : new.horizon ≡ horizon_after limits old step

-- a step that is decided, over any store: an entry is refused for its age exactly where it is too old, and a step that neither
-- takes an entry nor asks for partials is answered as it should be
abbrev pub IsAnswered : Limits → ShardState → ShardStep → ShardReply → ShardState → Type 0
IsAnswered limits old (steps.Push entry) reply new = MatchOption (age_answer limits old entry) (IsTaken old entry reply new) (λ answer. (reply ≡ answer) × (new ≡ old))
IsAnswered limits old (steps.Collect slot terms t) (replies.Collected partials) new = AreWithin limits.entries (length terms) partials × (new ≡ old)
IsAnswered limits old (steps.Collect slot terms t) other new = ⊥
IsAnswered limits old step reply new = IsReply limits old step reply × IsLeft limits old step new
