-- Moments.
use Rattle.std.specs.Prelude.{ℕ, nat_le, Option, Some, None, if◌then◌else◌}

-- the greatest moment, in nanoseconds: 2 to the power 63, less 1
abbrev pub greatest_moment : ℕ
greatest_moment = 9223372036854775807

-- a moment, unless it is past the greatest
abbrev pub moment_at : ℕ → Option ℕ
moment_at n = if nat_le n greatest_moment then Some n else None
