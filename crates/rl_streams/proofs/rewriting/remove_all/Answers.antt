-- One number more.
use Rattle.std.proofs.Common.{get_or, subst, take_all}
use Rattle.std.proofs.lemmas.List.{get_or_default}
use Rattle.rl_streams.specs.Rewritten.{AreRemoved}
use Rattle.rl_streams.proofs.Removed.{one_removed, removed_more}
use Rattle.rl_streams.proofs.rewriting.remove_all.Goals as goal

pub loop-number-preserved : goal.loop-number-preserved
loop-number-preserved g c =
    let start = c.args.chunks.now in
    let seen = c.loop-number.chunks in
    let after = c.remove.new.self in
    let number = get_or c.args.numbers.now c.loop-number.number-index 0 in
    removed_more c.args.numbers.now c.loop-number.number-index number start seen after c.loop-number-test.true (get_or_default c.args.numbers.now c.loop-number.number-index 0 number c.loop-number-test.true) c.loop-number.invariant
    (one_removed seen after number c.remove.result c.remove.ensures.ok c.remove.ensures.err c.remove.ensures.keeps c.remove.ensures.device c.remove.ensures.counted c.remove.ensures.next)

pub returns : goal.returns
returns g c = subst (λ ns. AreRemoved c.args.chunks.now ns c.loop-number.chunks) (take_all c.loop-number.number-index c.args.numbers.now c.loop-number-test.false) c.loop-number.invariant
