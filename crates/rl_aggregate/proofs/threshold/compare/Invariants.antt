-- The samples that pass stand in front, in their order, and those from the index on are as they were.
use Rattle.std.proofs.lemmas.List.Filters.{FiltersInPlace}
use Rattle.rl_aggregate.specs.Ratios.{millionths, passes}
use Rattle.rl_aggregate.proofs.threshold.compare.Given as goal

abbrev pub invariant-loop-index : goal.invariant-loop-index
invariant-loop-index l = FiltersInPlace (λ sample. passes l.test.comparison (millionths l.test.value) sample.value) l.fn.samples.items l.samples.items l.kept l.index
