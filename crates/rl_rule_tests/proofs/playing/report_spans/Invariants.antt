-- What the spans so far make of the counts.
use Rattle.std.proofs.Common.{drop}
use Rattle.rl_rule_tests.specs.Counting.{counts_of}
use Rattle.rl_rule_tests.specs.Playing.{ruler_of, AsksOfNobody}
use Rattle.rl_rule_tests.proofs.Chains.{Goes}
use Rattle.rl_rule_tests.proofs.playing.report_spans.Given as goal

abbrev pub invariant-loop-span : goal.invariant-loop-span
invariant-loop-span g l = Goes (AsksOfNobody (ruler_of g.E.Engine.calls) l.engine) (counts_of l.fn.report) l.span-items (drop l.span-index l.span-items) (counts_of l.report)
