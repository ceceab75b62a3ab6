-- Up to 15 digits in front of the point, and up to nine after it.
use Rattle.std.proofs.Common.{arith}
use Rattle.rl_labels.proofs.decimal.Decimal.of_digits.Goals as goal

pub invariant_of-result : goal.invariant_of-result
invariant_of-result c =
    let few = c.in_ok-whole-in-None.ensures.few in
    (few.1 15 (omega (arith, few.0, c.requires)), (omega arith, omega arith))

pub invariant_of-result-in-Some : goal.invariant_of-result-in-Some
invariant_of-result-in-Some c =
    let few = c.in_ok-whole-in-Some.ensures.few in
    let following = c.in_ok-fraction-in-Some.ensures.few in
    (few.1 15 (omega (arith, few.0, c.requires)), (following.1 _ (omega arith), following.0))
