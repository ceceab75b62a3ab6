-- Queries and sieves may be sent to another thread, and looked at from two.
use denote.Param.Send.{IsSend, IsSync, sendable}
use Rattle.std.proofs.Crossing as heap
use Rattle.rl_plain.proofs.list.PlainList.TheSendSync as list
use Rattle.rl_plain.proofs.shared.Shared.TheSendSync as shared
use Rattle.rl_query.proofs.aggregation.Aggregation.TheSendSync as aggregation
use Rattle.rl_query.proofs.aggregation.Threshold.TheSendSync as threshold
use Rattle.rl_query.proofs.filter.LineFilter.TheSendSync as filter
use Rattle.rl_query.proofs.filter.Sieve.TheSendSync as sieve
use Rattle.rl_query.proofs.label_test.Join.TheSendSync as join
use Rattle.rl_query.proofs.label_test.LabelTest.TheSendSync as test
use Rattle.rl_query.proofs.label_test.LabelTests.TheLaws.TheKnot as knot
use Rattle.rl_query.proofs.query.RangeFunction.TheSendSync as function
use Rattle.rl_query.proofs.query.Selector.TheSendSync as selector
use Rattle.rl_query.proofs.stages.Parser.TheSendSync as parser
use Rattle.rl_query.specs.contracts.label_test.LabelTests as LabelTests
use Rattle.rl_query.specs.contracts.query.LogRange as LogRange
use Rattle.rl_query.specs.contracts.query.Query as Query
use Rattle.rl_query.specs.contracts.query.Term as Term
use Rattle.rl_query.specs.contracts.stages.Stage as Stage

pub LabelTests-send : IsSend LabelTests.the_row
LabelTests-send = search (knot.crosses, test.the_field_send, join.the_field_send, sendable, heap.crosses) depth 20

pub LabelTests-sync : IsSync LabelTests.the_row
LabelTests-sync = search (knot.crosses, test.the_field_sync, join.the_field_sync, sendable, heap.crosses) depth 20

pub Stage-send : IsSend Stage.the_row
Stage-send = let tests = LabelTests-send in search (filter.the_field_send, parser.the_field_send, sendable, heap.crosses) depth 20

pub Stage-sync : IsSync Stage.the_row
Stage-sync = let tests = LabelTests-sync in search (filter.the_field_sync, parser.the_field_sync, sendable, heap.crosses) depth 20

pub LogRange_field-send : IsSend (LogRange.the_field).row
LogRange_field-send = let stage = Stage-send in search (selector.the_field_send, list.the_send, sendable, heap.crosses) depth 20

pub LogRange_field-sync : IsSync (LogRange.the_field).row
LogRange_field-sync = let stage = Stage-sync in search (selector.the_field_sync, list.the_sync, sendable, heap.crosses) depth 20

pub Term-send : IsSend Term.the_row
Term-send = let range = LogRange_field-send in
    search (aggregation.the_send, function.the_field_send, list.the_send, sendable, heap.crosses) depth 20

pub Term-sync : IsSync Term.the_row
Term-sync = let range = LogRange_field-sync in
    search (aggregation.the_sync, function.the_field_sync, list.the_sync, sendable, heap.crosses) depth 20

pub Term_field-send : IsSend (Term.the_field).row
Term_field-send = let range = LogRange_field-send in
    search (aggregation.the_send, function.the_field_send, list.the_send, sendable, heap.crosses) depth 20

pub Term_field-sync : IsSync (Term.the_field).row
Term_field-sync = let range = LogRange_field-sync in
    search (aggregation.the_sync, function.the_field_sync, list.the_sync, sendable, heap.crosses) depth 20

pub Query-send : IsSend Query.the_row
Query-send = let term = Term_field-send in search (threshold.the_send, sendable, heap.crosses) depth 20

pub Query-sync : IsSync Query.the_row
Query-sync = let term = Term_field-sync in search (threshold.the_sync, sendable, heap.crosses) depth 20

pub Query_field-send : IsSend (Query.the_field).row
Query_field-send = let term = Term_field-send in search (threshold.the_send, sendable, heap.crosses) depth 20

pub Query_field-sync : IsSync (Query.the_field).row
Query_field-sync = let term = Term_field-sync in search (threshold.the_sync, sendable, heap.crosses) depth 20

-- with these `search` shows that a type which holds queries or sieves, or shares lists of them, may be sent and looked at from two threads
pub ruleset crosses = (
  LabelTests-send,
  LabelTests-sync,
  Stage-send,
  Stage-sync,
  LogRange_field-send,
  LogRange_field-sync,
  Term-send,
  Term-sync,
  Term_field-send,
  Term_field-sync,
  Query-send,
  Query-sync,
  Query_field-send,
  Query_field-sync,
  sieve.the_send,
  sieve.the_sync,
  sieve.the_field_send,
  sieve.the_field_sync,
  list.the_send,
  list.the_sync,
  shared.the_send,
  shared.the_sync,
)
