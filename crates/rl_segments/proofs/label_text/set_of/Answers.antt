-- The last labels make a set, with one more each time.
use Rattle.std.proofs.Common.{◌≡◌, ◌+◌, ◌-◌, drop, drop_of_length-le, Ok, sym, ap, subst, ◌∙◌, arith}
use Rattle.rl_plain.specs.Answers.{◌>>=◌, Fails}
use Rattle.rl_segments.specs.LabelReading.{set_of, with_new}
use Rattle.rl_segments.proofs.Labels.{one_more, refused_from}
use Rattle.rl_segments.proofs.label_text.set_of.Goals as goal

pub loop-left-init : goal.loop-left-init
unfolding set_of
loop-left-init c = (omega arith, ap set_of (drop_of_length-le c.args.pairs.now (omega arith)) ∙ ap Ok (sym (c.in_ok-set.ensures ∙ c.in_ok-none.ensures)))

pub loop-left-preserved : goal.loop-left-preserved
loop-left-preserved c =
    let k = c.loop-left.left - 1 in
    let next : drop (k + 1) c.args.pairs.now ≡ drop c.loop-left.left c.args.pairs.now = ap (λ n. drop n c.args.pairs.now) (omega (arith, c.loop-left-test.true)) in
    (omega (arith, c.loop-left.invariant.0), one_more c.args.pairs.now k c.index-pairs-left.result (omega (arith, c.loop-left.invariant.0, c.loop-left-test.true)) c.index-pairs-left.is ∙ ap (λ set. set >>= with_new c.index-pairs-left.result) (ap set_of next ∙ c.loop-left.invariant.1) ∙ c.in-Ok.ensures.ok)

pub returns-in-Err : goal.returns-in-Err
returns-in-Err c =
    let k = c.loop-left.left - 1 in
    let next : drop (k + 1) c.args.pairs.now ≡ drop c.loop-left.left c.args.pairs.now = ap (λ n. drop n c.args.pairs.now) (omega (arith, c.loop-left-test.true)) in
    let here = one_more c.args.pairs.now k c.index-pairs-left.result (omega (arith, c.loop-left.invariant.0, c.loop-left-test.true)) c.index-pairs-left.is ∙ ap (λ set. set >>= with_new c.index-pairs-left.result) (ap set_of next ∙ c.loop-left.invariant.1) in
    refused_from c.args.pairs.now k c.in-Err.error (subst (Fails c.in-Err.error) (sym here) c.in-Err.ensures.err)
