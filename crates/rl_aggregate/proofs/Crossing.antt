-- Partials, and what finishes queries, may be sent to another thread.
use denote.Param.Send.{IsSend, sendable}
use Rattle.std.proofs.Crossing as heap
use Rattle.rl_plain.proofs.list.PlainList.TheSendSync as list
use Rattle.rl_plain.proofs.shared.Shared.TheSendSync as shared
use Rattle.rl_query.proofs.Crossing as queries
use Rattle.rl_aggregate.proofs.outcome.Outcome.TheSendSync as outcome
use Rattle.rl_aggregate.proofs.partial.Partial.TheSendSync as partial
use Rattle.rl_aggregate.specs.contracts.finishing.OutcomeCache as OutcomeCache

pub OutcomeCache-send : IsSend OutcomeCache.the_row
OutcomeCache-send = search (outcome.the_field_send, partial.the_send, partial.the_sync, queries.crosses, shared.the_send, list.the_send, sendable, heap.crosses) depth 20

-- with this `search` shows that a type which has one may be sent
pub ruleset crosses = (OutcomeCache-send)
