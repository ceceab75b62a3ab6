-- Built pipelines and sieves may be sent to another thread.
use denote.Param.Send.{IsSend, sendable}
use Rattle.std.proofs.Crossing as heap
use Rattle.memchr.proofs.memmem.Finder.TheSendSync as finder
use Rattle.rl_labels.proofs.Crossing as labels
use Rattle.rl_patterns.proofs.Crossing as patterns
use Rattle.rl_query.proofs.filter.LineFilter.TheSendSync as filter
use Rattle.rl_query.proofs.filter.Sieve.TheSendSync as sieve
use Rattle.rl_query.proofs.label_test.Join.TheSendSync as join
use Rattle.rl_query.proofs.label_test.LabelTest.TheSendSync as test
use Rattle.rl_query.proofs.stages.Parser.TheSendSync as parser
use Rattle.rl_pipeline.proofs.label_tests.TestsCode.TheLaws.TheKnot as knot
use Rattle.rl_pipeline.specs.contracts.filter.FilterCode as FilterCode
use Rattle.rl_pipeline.specs.contracts.label_tests.TestCode as TestCode
use Rattle.rl_pipeline.specs.contracts.label_tests.TestsCode as TestsCode
use Rattle.rl_pipeline.specs.contracts.pipeline.Pipeline as Pipeline
use Rattle.rl_pipeline.specs.contracts.sieve.SieveCode as SieveCode

FilterCode-send : IsSend FilterCode.the_row
FilterCode-send = search (patterns.crosses, finder.the_send, filter.the_field_send, sendable, heap.crosses) depth 20

TestCode-send : IsSend TestCode.the_row
TestCode-send = search (patterns.crosses, test.the_field_send, sendable, heap.crosses) depth 20

TestsCode-send : IsSend TestsCode.the_row
TestsCode-send = let code = TestCode-send in search (knot.crosses, join.the_field_send, sendable, heap.crosses) depth 20

pub Pipeline-send : IsSend Pipeline.the_row
Pipeline-send = let filters = FilterCode-send in let tests = TestsCode-send in
    search (parser.the_field_send, sendable, heap.crosses) depth 20

pub SieveCode-send : IsSend SieveCode.the_row
SieveCode-send = let filters = FilterCode-send in search (labels.crosses, sieve.the_field_send, sendable, heap.crosses) depth 20

-- with these `search` shows that a type which holds built pipelines or sieves may be sent
pub ruleset crosses = (Pipeline-send, SieveCode-send)
