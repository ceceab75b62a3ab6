-- Delete requests: what they cover, and what becomes of them.
use Rattle.std.specs.Prelude.{◌≡◌, ℕ, ◌+◌, ◌*◌, ◌^◌, nat_lt, nat_le, Bool, true, false, not, ◌&&◌, List, Option, None, Some, is_none, Result, Ok, Err, if◌then◌else◌}
use Rattle.std.specs.List.{list_any}
use Rattle.std.specs.FinMap as map
use Rattle.std.specs.FinMap.{FinMap}
use Rattle.std.specs.Ordering.{nat_cmp}
use Rattle.rl_plain.specs.declared.refusal.OrMemory.{OrMemory}
use Rattle.rl_plain.specs.declared.refusal.OrMemory.TheVariants.{Fault, Memory}
use Rattle.rl_labels.specs.LabelSet.{LabelSet}
use Rattle.rl_labels.specs.declared.entry.Entry.{Entry}
use Rattle.rl_labels.specs.declared.limits.Limits.{Limits}
use Rattle.rl_query.specs.declared.filter.Sieve.{Sieve}
use Rattle.rl_pipeline.specs.Sieving.{selects_line}
use Rattle.rl_deletes.specs.declared.deletion.Deletion.{Deletion}
use Rattle.rl_deletes.specs.declared.request.RequestStatus.{RequestStatus}
use Rattle.rl_deletes.specs.declared.request.RequestStatus.TheVariants.{Received, Cancelled, Processed}
use Rattle.rl_deletes.specs.declared.request.Request.{Request}
use Rattle.rl_deletes.specs.declared.fault.ReceiveFault.{ReceiveFault}
use Rattle.rl_deletes.specs.declared.fault.ReceiveFault.TheVariants.{IdTaken, Full}
use Rattle.rl_deletes.specs.declared.fault.CancelFault.{CancelFault}
use Rattle.rl_deletes.specs.declared.fault.CancelFault.TheVariants as cancelling
use Rattle.rl_deletes.specs.declared.fault.ProcessFault.{ProcessFault}
use Rattle.rl_deletes.specs.declared.fault.ProcessFault.TheVariants as processing

-- requests by their numbers, and how long after its making each is not processed, in seconds
pub record RequestsView : Type 0 where
  pub requests : FinMap nat_cmp Request
  pub cancel : ℕ

-- no requests: each waits for as long as the limits say
abbrev pub no_requests : Limits → RequestsView
no_requests limits = record { requests = map.empty; cancel = limits.cancel }

-- the most requests, whatever their status
abbrev pub most_requests : ℕ
most_requests = 65536

abbrev pub is_in_force : RequestStatus → Bool
is_in_force Received = true
is_in_force Cancelled = false
is_in_force Processed = false

-- it was neither cancelled nor processed
abbrev pub is_received : Request → Bool
is_received request = is_in_force request.status

-- the sieve selects the line of the stream, and its timestamp is from the start to the end
abbrev pub covers_line : Request → LabelSet → (timestamp : ℕ) → List ℕ → Bool
covers_line request labels timestamp line = nat_le request.deletion.start timestamp && nat_le timestamp request.deletion.end && selects_line request.deletion.selector labels line

-- the request covers the entry
abbrev pub covers_one : Request → Entry → Bool
covers_one request entry = covers_line request entry.labels entry.timestamp entry.line

-- some received request covers it
abbrev pub covered_line : RequestsView → LabelSet → (timestamp : ℕ) → List ℕ → Bool
covered_line all labels timestamp line = list_any (λ request. is_received request && covers_line request labels timestamp line) (map.values all.requests)

-- some received request covers the entry
abbrev pub covered : RequestsView → Entry → Bool
covered all entry = covered_line all entry.labels entry.timestamp entry.line

-- the requests but that with the number
abbrev pub without_request : RequestsView → ℕ → RequestsView
without_request all id = record { requests = map.remove all.requests id; cancel = all.cancel }

-- some received request but that with the number covers it
abbrev pub covered_beside : RequestsView → ℕ → Entry → Bool
covered_beside all id entry = covered (without_request all id) entry

-- the request covers the entry, and no received one does but that with the number
abbrev pub hidden_alone : RequestsView → ℕ → Request → Entry → Bool
hidden_alone all id request entry = covers_one request entry && not (covered_beside all id entry)

-- the request, if it is received
abbrev pub if_received : Option Request → Option Request
if_received None = None
if_received (Some request) = if is_received request then Some request else None

-- the received request with the number
abbrev pub received_at : RequestsView → ℕ → Option Request
received_at all id = if_received (map.get all.requests id)

-- with the request under the number
abbrev pub with_request : RequestsView → ℕ → Request → RequestsView
with_request all id request = record { requests = map.insert all.requests id request; cancel = all.cancel }

-- RECEIVING

-- the deletion of what something else selects
abbrev pub with_selector : {A B : Type 0} → B → Deletion A → Deletion B
with_selector selector deletion = record { id = deletion.id; selector = selector; start = deletion.start; end = deletion.end; created = deletion.created }

-- a request as it is received
abbrev pub asked : Deletion Sieve → Request
asked deletion = record { deletion = deletion; status = Received }

-- the known request is received and covers what the other asks for
pub record IsRepeat (request known : Request) : Type 0 where
  pub received : is_received known ≡ true
  pub selector : known.deletion.selector ≡ request.deletion.selector
  pub start : known.deletion.start ≡ request.deletion.start
  pub end : known.deletion.end ≡ request.deletion.end

-- one is known by the number
abbrev pub IsTakenFault : (request known : Request) → Option ReceiveFault → Type 0
IsTakenFault request known None = IsRepeat request known
IsTakenFault request known (Some IdTaken) = ¬ (IsRepeat request known)
IsTakenFault request known (Some Full) = ⊥

-- none is known by the number, and there are this many requests
abbrev pub room_fault : ℕ → Option ReceiveFault
room_fault count = if nat_le most_requests count then Some Full else None

abbrev pub IsFaultBeside : Option Request → (count : ℕ) → Request → Option ReceiveFault → Type 0
IsFaultBeside None count request fault = fault ≡ room_fault count
IsFaultBeside (Some known) count request fault = IsTakenFault request known fault

-- why the request is not received under the number, if it is not
abbrev pub IsReceiveFault : RequestsView → ℕ → Request → Option ReceiveFault → Type 0
IsReceiveFault all id request fault = IsFaultBeside (map.get all.requests id) (map.len all.requests) request fault

-- an answer with a fault has that fault; memory lacks only where there is none
abbrev pub IsReceiveAnswer : RequestsView → ℕ → Request → Result Unit (OrMemory ReceiveFault) → Type 0
IsReceiveAnswer all id request (Ok _) = Unit {0}
IsReceiveAnswer all id request (Err Memory) = IsReceiveFault all id request None
IsReceiveAnswer all id request (Err (Fault fault)) = IsReceiveFault all id request (Some fault)

abbrev pub received_beside : Option Request → RequestsView → ℕ → Request → RequestsView
received_beside None all id request = with_request all id request
received_beside (Some known) all id request = all

-- there is room for a request, and none has the number
abbrev pub is_new_request : RequestsView → ℕ → Bool
is_new_request all id = not (nat_le most_requests (map.len all.requests)) && is_none (map.get all.requests id)

-- the request is there; one that was there stays as it was first received
abbrev pub received : RequestsView → ℕ → Request → RequestsView
received all id request = received_beside (map.get all.requests id) all id request

-- CANCELLING AND PROCESSING

abbrev pub with_status : RequestStatus → Request → Request
with_status status request = record request { status = status }

abbrev pub ended_from : Option Request → RequestStatus → RequestsView → ℕ → RequestsView
ended_from None status all id = all
ended_from (Some request) status all id = if is_received request then with_request all id (with_status status request) else all

-- the request with the number has the status from now on, if it was received
abbrev pub ended : RequestStatus → RequestsView → ℕ → RequestsView
ended status all id = ended_from (map.get all.requests id) status all id

abbrev pub cancel_fault_in : RequestStatus → Option CancelFault
cancel_fault_in Received = None
cancel_fault_in Cancelled = None
cancel_fault_in Processed = Some cancelling.AlreadyProcessed

abbrev pub cancel_fault_of : Option Request → Option CancelFault
cancel_fault_of None = Some cancelling.NoSuchRequest
cancel_fault_of (Some request) = cancel_fault_in request.status

-- why the request with the number is not cancelled, if it is not
abbrev pub cancel_fault : RequestsView → ℕ → Option CancelFault
cancel_fault all id = cancel_fault_of (map.get all.requests id)

abbrev pub cancelled : RequestsView → ℕ → RequestsView
cancelled all id = ended Cancelled all id

-- from when on a request that was made at the moment can be processed, in nanoseconds
abbrev pub due : RequestsView → (created : ℕ) → ℕ
due all created = created + all.cancel * 10 ^ 9

abbrev pub process_fault_in : RequestStatus → (due now : ℕ) → Option ProcessFault
process_fault_in Received due now = if nat_lt now due then Some processing.TooEarly else None
process_fault_in Cancelled due now = Some processing.WasCancelled
process_fault_in Processed due now = None

abbrev pub process_fault_of : Option Request → RequestsView → (now : ℕ) → Option ProcessFault
process_fault_of None all now = Some processing.NoSuchRequest
process_fault_of (Some request) all now = process_fault_in request.status (due all request.deletion.created) now

-- why the request with the number is not processed at the moment, if it is not
abbrev pub process_fault : RequestsView → ℕ → (now : ℕ) → Option ProcessFault
process_fault all id now = process_fault_of (map.get all.requests id) all now

abbrev pub processed : RequestsView → ℕ → RequestsView
processed all id = ended Processed all id
