-- A range of time as contracts see it.
use Rattle.std.specs.Prelude.{ℕ}

pub record TimeRangeView : Type 0 where
  pub from : ℕ
  pub to : ℕ
