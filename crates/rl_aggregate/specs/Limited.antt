-- How much lines may add up to: a given number of them, and those of one term of a query, over all shards.
use Rattle.std.specs.Prelude.{ℕ, ◌+◌, ◌*◌, ◌<◌, ◌≤◌, ◌^◌}
use Rattle.std.specs.List.{sum_by}
use Rattle.std.specs.FinMap.{entries, len}
use Rattle.rl_labels.specs.EntryParts.{longest_line}
use Rattle.rl_aggregate.specs.TotalsMap.{TotalsMap}
use Rattle.rl_aggregate.specs.declared.volume.Volume.{Volume}
use Rattle.rl_aggregate.specs.declared.partial.Partial.{Partial}

-- a number of each total, of all label sets together
abbrev pub sum_of : (Volume → ℕ) → TotalsMap → ℕ
sum_of number totals = sum_by (λ entry. number entry.1) (entries totals)

-- label sets and numbers that a given number of lines give at most, of all label sets together
pub record IsWithin (lines : ℕ) (partial : Partial) : Type 0 where
  pub sets : len partial.totals ≤ lines
  pub counts : partial.errors + sum_of (λ total. total.count) partial.totals ≤ lines
  pub bytes : sum_of (λ total. total.bytes) partial.totals ≤ lines * longest_line

-- no more lines and label sets than all shards may hold, and fewer bytes than that many lines may have
pub record IsLimited (partial : Partial) : Type 0 where
  pub sets : len partial.totals ≤ 2 ^ 30
  pub counts : sum_of (λ total. total.count) partial.totals ≤ 2 ^ 30
  pub bytes : sum_of (λ total. total.bytes) partial.totals < 2 ^ 46
