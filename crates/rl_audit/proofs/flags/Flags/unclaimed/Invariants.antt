-- The columns so far are claimed.
use Rattle.std.proofs.Common.{◌≡◌, ◌<◌, true, IfSome}
use Rattle.rl_audit.specs.Claims.{item_at, Place}
use Rattle.rl_audit.proofs.flags.Flags.unclaimed.Given as goal

abbrev pub invariant-loop-column : goal.invariant-loop-column
invariant-loop-column l = (place : Place) → place.0 < l.column → IfSome (item_at l.self.flags.items place) (λ flag. flag ≡ true)
