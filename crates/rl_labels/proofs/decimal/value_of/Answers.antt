-- A digit more, within the number that all write.
use Rattle.std.proofs.Common.{◌+◌, ◌*◌, ◌<◌, ◌^◌, take, take_all, sym, ap, subst, ◌∙◌, arith}
use Rattle.std.specs.Str.Parse.{digits_value}
use Rattle.rl_labels.specs.laws.QuantityLaws.{row-below}
use Rattle.rl_labels.proofs.Rows.{digit_more, front-below}
use Rattle.rl_labels.proofs.decimal.value_of.Goals as goal

pub overflow_mul-value : goal.overflow_mul-value
overflow_mul-value c =
    let digits = c.args.digits.now in
    let i = c.loop-byte.byte-index in
    omega (arith, c.loop-byte.invariant, digit_more digits i c.loop-byte-test.true c.requires.digits, front-below digits (i + 1) 19 c.requires.digits c.requires.few)

pub overflow_add-value : goal.overflow_add-value
overflow_add-value c =
    let digits = c.args.digits.now in
    let i = c.loop-byte.byte-index in
    omega (arith, c.loop-byte.invariant, c.from.ensures, digit_more digits i c.loop-byte-test.true c.requires.digits, front-below digits (i + 1) 19 c.requires.digits c.requires.few)

pub loop-byte-preserved : goal.loop-byte-preserved
loop-byte-preserved c =
    let digits = c.args.digits.now in
    let i = c.loop-byte.byte-index in
    ap (λ n. 10 * n + c.from.result) c.loop-byte.invariant ∙ ap (λ d. 10 * digits_value 10 (take i digits) + d) c.from.ensures ∙ sym (digit_more digits i c.loop-byte-test.true c.requires.digits)

pub returns-clause-value : goal.returns-clause-value
returns-clause-value c = c.loop-byte.invariant ∙ ap (digits_value 10) (take_all c.loop-byte.byte-index c.args.digits.now (omega (arith, c.loop-byte-test.false)))

pub returns-clause-few : goal.returns-clause-few
returns-clause-few c = λ most few. subst (λ n. n < 10 ^ most) (sym (returns-clause-value c)) (row-below c.args.digits.now most c.requires.digits few)
