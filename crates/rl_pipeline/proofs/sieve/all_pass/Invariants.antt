-- The filters so far let the line pass.
use Rattle.std.proofs.Common.{◌≡◌, take, true}
use Rattle.std.specs.List.{list_all}
use Rattle.rl_pipeline.specs.Filtering.{passes}
use Rattle.rl_pipeline.proofs.sieve.all_pass.Given as goal

abbrev pub invariant-loop-filter : goal.invariant-loop-filter
invariant-loop-filter l = list_all (λ filter. passes filter l.line) (take l.filter-index l.filters) ≡ true
