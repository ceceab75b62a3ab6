-- The ratios so far and those of the samples that are left, by the divisors that are left, are all.
use Rattle.std.proofs.Common.{◌≡◌, ◌++◌}
use Rattle.std.specs.List.{AllByRecursion}
use Rattle.rl_aggregate.specs.Ratios.{ratios}
use Rattle.rl_aggregate.specs.Vectors.{AreInOrder, IsOfOneTerm}
use Rattle.rl_aggregate.proofs.ratio.divide.Given as goal

abbrev pub invariant-loop-sample : goal.invariant-loop-sample
invariant-loop-sample l = record {
  all : l.made.items ++ ratios l.sample-iterator.rest.items l.rest ≡ ratios l.fn.samples.items l.divisors;
  order : AreInOrder l.sample-iterator.rest.items;
  divisors_order : AreInOrder l.rest;
  small : AllByRecursion IsOfOneTerm l.sample-iterator.rest.items;
  divisors_small : AllByRecursion IsOfOneTerm l.rest;
}
