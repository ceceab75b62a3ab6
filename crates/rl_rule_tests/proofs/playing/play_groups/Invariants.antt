-- What the groups so far make of the ruler and of the counts.
use Rattle.std.proofs.Common.{drop}
use Rattle.rl_rule_tests.specs.Counting.{counts_of}
use Rattle.rl_rule_tests.specs.Playing.{ruler_of, PutsGroup}
use Rattle.rl_rule_tests.proofs.Chains.{Goes}
use Rattle.rl_rule_tests.proofs.playing.play_groups.Given as goal

abbrev pub invariant-loop-group : goal.invariant-loop-group
invariant-loop-group g l = Goes (PutsGroup (ruler_of g.E.Engine.calls)) (record { engine = l.fn.engine; counts = counts_of l.fn.report }) l.groups (drop l.group-index l.groups) (record { engine = l.engine; counts = counts_of l.report })
