-- The codes so far are those of the filters so far.
use Rattle.std.proofs.Common.{◌≡◌, take}
use Rattle.rl_pipeline.proofs.sieve.filter_codes.Given as goal

abbrev pub invariant-loop-filter : goal.invariant-loop-filter
invariant-loop-filter l = l.codes.items ≡ take l.filter-index l.filters
