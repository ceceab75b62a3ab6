-- Requests may be sent to another thread.
use denote.Struct.Declared.{shape}
use denote.Struct.Field
use denote.Param.Send.{IsSend, sendable, view_send, recorded_send, struct_send}
use Rattle.std.specs.Prelude.{◌==◌, Some}
use Rattle.std.specs.Ordering.{nat_cmp}
use Rattle.std.proofs.Crossing as heap
use Rattle.std.proofs.alloc.Global.TheSendSync as global
use Rattle.std.proofs.collections.BTreeMap.TheSendSync as tree
use Rattle.rl_pipeline.proofs.Crossing as pipeline
use Rattle.rl_plain.proofs.shared.Shared.TheSendSync as shared
use Rattle.rl_query.proofs.filter.Sieve.TheSendSync as sieve
use Rattle.rl_deletes.specs.contracts.active.ActiveRequest as ActiveRequest
use Rattle.rl_deletes.specs.contracts.request.Request as Request
use Rattle.rl_deletes.specs.contracts.requests.Requests as Requests
use Rattle.rl_deletes.specs.contracts.requests.Requests.TheInside as inside

ActiveRequest-send : IsSend ActiveRequest.the_row
ActiveRequest-send = search (pipeline.crosses, sendable, heap.crosses) depth 20

Request-send : IsSend Request.the_row
Request-send = search (sieve.the_send, sieve.the_sync, shared.the_send, sendable, heap.crosses) depth 20

fields-send : IsSend inside.the_row
fields-send =
    let number : IsSend (Field.u64-field).row = search sendable depth 20 in
    let requests = tree.the_send _ _ _ _ (record { eq = ◌==◌ }) (record { partial_cmp = λ x y. Some (nat_cmp x y) }) _ number Request-send heap.send heap.frees in
    let active = tree.the_send _ _ _ _ (record { eq = ◌==◌ }) (record { partial_cmp = λ x y. Some (nat_cmp x y) }) _ number ActiveRequest-send heap.send heap.frees in
    recorded_send (inside.the_field).row _ _ (inside.the_type).to_one (struct_send (shape inside.the_type) (global.the_field_send, (number, (requests, (active, (number, tt))))))

pub Requests-send : IsSend Requests.the_row
Requests-send = view_send _ _ _ _ _ fields-send

-- with this `search` shows that a type which holds requests may be sent
pub ruleset crosses = (Requests-send)
