-- Where the totals that are left are such, all are.
use Rattle.std.specs.FinMap.{entries}
use Rattle.std.specs.List.{AllByRecursion}
use Rattle.rl_segments.specs.Records.{IsTotal}
use Rattle.rl_segments.proofs.in_memory.are_totals.Given as goal

abbrev pub invariant-loop-labels : goal.invariant-loop-labels
invariant-loop-labels l = AllByRecursion IsTotal l.labels-iterator → AllByRecursion IsTotal (entries l.totals)
