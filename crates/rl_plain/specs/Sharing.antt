-- What a shared value ends as, where a `&mut` to it is returned.
use Rattle.std.specs.Prelude.{Option}
use Rattle.std.specs.Borrow.{LendsIf, MutBor, RattleType, Fml}
use Rattle.rl_plain.specs.contracts.shared.Shared.{the_row}

-- once the borrow r ends, the value is what r shows last, and at `None` it stays as it is
abbrev pub lends_value : (R : RattleType) → MutBor R.Denot → Option (MutBor R.Denot) → Fml
lends_value R s r = LendsIf (the_row R) R s r (λ w. w) s.now
