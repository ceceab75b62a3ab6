use Rattle.std.proofs.Common.{◌≤◌}
use Rattle.rl_query.specs.TestTree.{tree_size}
use Rattle.rl_pipeline.proofs.label_tests.TestsCode.+ending.Given as goal

abbrev pub invariant-loop-test : goal.invariant-loop-test
invariant-loop-test l = tree_size l.self ≤ tree_size l.initial.self
