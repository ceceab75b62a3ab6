-- The results of the rules so far and those of the rules that are left, for whose terms there is a partial each, within the limits of one.
use Rattle.std.proofs.Common.{◌≡◌, ◌++◌, length, drop, flat_map}
use Rattle.std.specs.List.{AllByRecursion}
use Rattle.rl_aggregate.specs.Evaluated.{terms_of}
use Rattle.rl_aggregate.specs.Limited.{IsLimited}
use Rattle.rl_world.specs.History.{alerts_then}
use Rattle.rl_world.specs.Kept.{results_from}
use Rattle.rl_world.proofs.evaluating.results.Given as goal

abbrev pub invariant-loop-index : goal.invariant-loop-index
invariant-loop-index l = record {
  same : l.kept ≡ l.fn.kept;
  many : length l.left.items ≡ l.index;
  all : l.results.items ++ results_from l.group.limit l.t (drop l.index l.group.rules) (drop l.index l.kept) l.rest ≡ results_from l.group.limit l.t l.group.rules l.kept l.partials;
  left : l.left.items ++ alerts_then (drop l.index l.kept) (results_from l.group.limit l.t (drop l.index l.group.rules) (drop l.index l.kept) l.rest) ≡ alerts_then l.kept (results_from l.group.limit l.t l.group.rules l.kept l.partials);
  each : length l.rest ≡ length (flat_map (λ rule. terms_of rule.query) (drop l.index l.group.rules));
  limited : AllByRecursion IsLimited l.rest;
}
