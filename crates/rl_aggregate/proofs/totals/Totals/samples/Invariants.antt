-- The samples so far and those of the entries that are left are all.
use Rattle.std.proofs.Common.{◌≡◌, ◌++◌, map as map_list}
use Rattle.rl_aggregate.specs.Evaluated.{sample, samples}
use Rattle.rl_aggregate.proofs.totals.Totals.samples.Given as goal

abbrev pub invariant-loop-labels : goal.invariant-loop-labels
invariant-loop-labels l = l.samples.items ++ map_list (sample l.term.function l.term.range.seconds) l.labels-iterator ≡ samples l.term l.self
