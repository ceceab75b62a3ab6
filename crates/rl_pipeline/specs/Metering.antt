-- Counters that stop at the greatest number of 64 bits.
use Rattle.std.specs.Prelude.{ℕ, ◌+◌, min}

pub record Metered : Type 0 where
  -- lines that were sent through pipelines
  pub runs : ℕ
  -- buckets that were visited
  pub visits : ℕ

abbrev pub greatest_count : ℕ
greatest_count = 18446744073709551615

abbrev pub with_run : Metered → Metered
with_run meter = record meter { runs = min (meter.runs + 1) greatest_count }

abbrev pub with_visits : (more : ℕ) → Metered → Metered
with_visits more meter = record meter { visits = min (meter.visits + more) greatest_count }
