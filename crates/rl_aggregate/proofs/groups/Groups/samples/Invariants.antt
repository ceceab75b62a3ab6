-- The samples so far and those of the groups that are left are all.
use Rattle.std.proofs.Common.{◌≡◌, ◌++◌, map as map_list}
use Rattle.std.specs.FinMap as map
use Rattle.rl_aggregate.specs.Grouping.{sample_of}
use Rattle.rl_aggregate.proofs.groups.Groups.samples.Given as goal

abbrev pub invariant-loop-labels : goal.invariant-loop-labels
invariant-loop-labels l = l.samples.items ++ map_list sample_of l.labels-iterator ≡ map_list sample_of (map.entries l.self)
