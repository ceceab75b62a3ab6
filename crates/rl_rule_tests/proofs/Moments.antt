-- The moments that are left, turn by turn.
use Rattle.std.proofs.Common.{◌≡◌, ℕ, zero, suc, ◌+◌, ◌-◌, ◌<◌, ◌∷◌, ap, sym, arith}
use Rattle.rl_rule_tests.specs.declared.events.What.TheVariants as whats
use Rattle.rl_rule_tests.specs.Happening.{moments_from}
use Rattle.rl_rule_tests.specs.Document.{sum_up_to}

moments_some : (number at step left : ℕ) → 0 < left → moments_from number at step left ≡ record { at = at; what = whats.Evaluation; number = number; line = 0 } ∷ moments_from number (sum_up_to at step) step (left - 1)
moments_some number at step zero some = absurd (omega (arith, some))
moments_some number at step (suc left) some = ap (λ n. record { at = at; what = whats.Evaluation; number = number; line = 0 } ∷ moments_from number (sum_up_to at step) step n) (omega arith)

pub moments_next : (number at step counter end : ℕ) → counter < end → moments_from number at step (end - counter) ≡ record { at = at; what = whats.Evaluation; number = number; line = 0 } ∷ moments_from number (sum_up_to at step) step (end - (counter + 1))
moments_next number at step counter end below =
    let left : end - counter - 1 ≡ end - (counter + 1) = omega arith in
    rw (sym left) (moments_some number at step (end - counter) (omega (arith, below)))
