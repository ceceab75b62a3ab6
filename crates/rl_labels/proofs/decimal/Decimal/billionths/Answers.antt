-- A fraction is less than a billion billionths.
use Rattle.std.proofs.Common.{◌≡◌, ◌*◌, ◌-◌, ◌^◌, ◌<◌, ap, sym, subst, ◌∙◌, arith}
use Rattle.rl_labels.proofs.Rows.{zeros_after-below}
use Rattle.rl_labels.proofs.decimal.Decimal.billionths.Goals as goal

pub returns-clause-small : goal.returns-clause-small
returns-clause-small c =
    let inside = c.self.inside in
    let product : c.from-2.result ≡ inside.fraction * 10 ^ (9 - inside.digits) = c.from-2.ensures ∙ ap (λ p. inside.fraction * p) c.pow.ensures in
    let fraction : c.from-2.result < 1000000000 = subst (λ n. n < 1000000000) (sym product) (zeros_after-below inside.fraction inside.digits c.self.invariant.1.1 c.self.invariant.1.0) in
    omega (arith, c.from.ensures, c.self.invariant.0, fraction)
