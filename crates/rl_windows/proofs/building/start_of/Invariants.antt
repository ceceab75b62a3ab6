-- No range so far is longer than the longest.
use Rattle.std.proofs.Common.{◌≤◌, take}
use Rattle.std.specs.List.{AllByRecursion}
use Rattle.rl_query.specs.Limits.{longest_range}
use Rattle.rl_windows.proofs.building.start_of.Given as goal

abbrev pub invariant-loop-term : goal.invariant-loop-term
invariant-loop-term l = record {
  longest : AllByRecursion (λ term. term.now.range.seconds ≤ l.longest) (take l.term-index l.terms);
  short : l.longest ≤ longest_range;
}
