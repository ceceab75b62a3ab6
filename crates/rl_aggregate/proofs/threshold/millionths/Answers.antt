-- A threshold has at most nine digits in front of its point, and six after it.
use Rattle.std.proofs.Common.{◌^◌, ◌∙◌, arith}
use Rattle.std.proofs.lemmas.Bool.{and_parts, ltb-true, leb-true}
use Rattle.std.specs.Prelude.{nat_lt, nat_le, ◌&&◌}
use Rattle.rl_labels.specs.QuantityTexts.{is_decimal}
use Rattle.rl_aggregate.proofs.Thresholds.{in_thousands, millionths-below}
use Rattle.rl_aggregate.proofs.threshold.millionths.Goals as goal

pub returns-clause-value : goal.returns-clause-value
returns-clause-value c =
    let value = c.args.test.now.value in
    let fits = and_parts (is_decimal value) (nat_lt value.whole (10 ^ 9) && nat_le value.digits 6) c.args.test.now.proper in
    let few = and_parts (nat_lt value.whole (10 ^ 9)) (nat_le value.digits 6) fits.1 in
    let thousands = c.billionths.ensures.value ∙ in_thousands value.whole value.fraction value.digits (leb-true value.digits 6 few.1) in
    omega (arith, thousands)

pub returns-clause-small : goal.returns-clause-small
returns-clause-small c =
    let value = c.args.test.now.value in
    let fits = and_parts (is_decimal value) (nat_lt value.whole (10 ^ 9) && nat_le value.digits 6) c.args.test.now.proper in
    let few = and_parts (nat_lt value.whole (10 ^ 9)) (nat_le value.digits 6) fits.1 in
    let proper = and_parts (nat_lt value.whole (10 ^ 15)) (nat_lt value.fraction (10 ^ value.digits) && nat_le value.digits 9) fits.0 in
    let digits = and_parts (nat_lt value.fraction (10 ^ value.digits)) (nat_le value.digits 9) proper.1 in
    let thousands = c.billionths.ensures.value ∙ in_thousands value.whole value.fraction value.digits (leb-true value.digits 6 few.1) in
    omega (arith, thousands, ltb-true value.whole (10 ^ 9) few.0, millionths-below value.fraction value.digits (leb-true value.digits 6 few.1) (ltb-true value.fraction (10 ^ value.digits) digits.0))
