-- The last label sets make totals, with one more each time.
use Rattle.std.proofs.Common.{◌≡◌, ◌+◌, ◌-◌, drop, drop_of_length-le, Ok, sym, ap, subst, ◌∙◌, arith}
use Rattle.rl_plain.specs.Answers.{◌>>=◌, Fails}
use Rattle.rl_segments.specs.RecordReading.{totals_of, with_total}
use Rattle.rl_segments.proofs.Totals.{one_more, refused_from}
use Rattle.rl_segments.proofs.replies.totals_of.Goals as goal

pub loop-left-init : goal.loop-left-init
unfolding totals_of
loop-left-init c = (omega arith, ap totals_of (drop_of_length-le c.args.volumes.now (omega arith)) ∙ ap Ok (sym c.new-totals.ensures))

pub loop-left-preserved : goal.loop-left-preserved
loop-left-preserved c =
    let k = c.loop-left.left - 1 in
    let next : drop (k + 1) c.args.volumes.now ≡ drop c.loop-left.left c.args.volumes.now = ap (λ n. drop n c.args.volumes.now) (omega (arith, c.loop-left-test.true)) in
    (omega (arith, c.loop-left.invariant.0), one_more c.args.volumes.now k c.index-volumes-left.result (omega (arith, c.loop-left.invariant.0, c.loop-left-test.true)) c.index-volumes-left.is ∙ ap (λ totals. totals >>= with_total c.index-volumes-left.result) (ap totals_of next ∙ c.loop-left.invariant.1) ∙ c.in-Ok.ensures.ok)

pub returns-in-Err : goal.returns-in-Err
returns-in-Err c =
    let k = c.loop-left.left - 1 in
    let next : drop (k + 1) c.args.volumes.now ≡ drop c.loop-left.left c.args.volumes.now = ap (λ n. drop n c.args.volumes.now) (omega (arith, c.loop-left-test.true)) in
    let here = one_more c.args.volumes.now k c.index-volumes-left.result (omega (arith, c.loop-left.invariant.0, c.loop-left-test.true)) c.index-volumes-left.is ∙ ap (λ totals. totals >>= with_total c.index-volumes-left.result) (ap totals_of next ∙ c.loop-left.invariant.1) in
    refused_from c.args.volumes.now k c.in-Err.error (subst (Fails c.in-Err.error) (sym here) c.in-Err.ensures.err)
