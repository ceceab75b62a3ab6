use Rattle.std.proofs.Common.{◌≤◌}
use Rattle.rl_query.specs.TestTree.{tree_size}
use Rattle.rl_pipeline.proofs.testing.TestsRunning.+ending.Given as goal

abbrev pub invariant-loop-node : goal.invariant-loop-node
invariant-loop-node l = tree_size l.self ≤ tree_size l.initial.self
