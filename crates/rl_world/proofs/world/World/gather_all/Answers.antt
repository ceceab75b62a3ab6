-- A shard more, or the first that refuses.
use Rattle.std.proofs.Common.{◌+◌, suc, ◌≡◌, Ok, length, subst, ◌∙◌, arith}
use Rattle.std.proofs.lemmas.Result.{err_from_is_err_and}
use Rattle.rl_world.specs.Evaluations.{AreAskedFor}
use Rattle.rl_world.proofs.Asking.{asked_more, asked_stop}
use Rattle.rl_world.proofs.Moments.{gathered_named, gathered_open}
use Rattle.rl_world.proofs.world.World.gather_all.Goals as goal

pub loop-number-preserved : goal.loop-number-preserved
loop-number-preserved g c =
    let n = c.loop-number.number in
    let before = c.loop-number.self in
    let after = c.gather.new.self in
    let kept = c.loop-number.invariant in
    let next : suc n ≡ n + 1 = omega arith in
    record {
      made = subst (λ m. AreAskedFor c.args.self.now c.args.group 0 m (Ok tt) after) next (asked_more c.args.self.now c.args.group 0 n n _ before after (omega arith) kept.made c.in_ok-gather.ensures.turned);
      still_open = gathered_open before c.args.group n c.gather.result after c.gather.ensures.turned ∙ kept.still_open;
      named = gathered_named before c.args.group n c.gather.result after c.gather.ensures.turned ∙ kept.named;
      prefixes = λ _. c.gather.ensures.prefixes;
    }

pub returns-in_err-gather-clause-made : goal.returns-in_err-gather-clause-made
returns-in_err-gather-clause-made g c =
    let n = c.loop-number.number in
    let error = err_from_is_err_and c.from_residual.result c.from_residual.ensures.1 in
    rw (error.1, error.2) (asked_stop c.args.self.now c.args.group 0 n (length c.args.self.now.shards) n c.loop-number.self c.gather.new.self _ (omega arith) (omega (arith, c.loop-number-test.true, c.shards-number-end.ensures)) c.loop-number.invariant.made c.in_err-gather.ensures.turned)

pub returns-in_err-gather-clause-still_open : goal.returns-in_err-gather-clause-still_open
returns-in_err-gather-clause-still_open g c = gathered_open c.loop-number.self c.args.group c.loop-number.number c.gather.result c.gather.new.self c.gather.ensures.turned ∙ c.loop-number.invariant.still_open

pub returns-in_err-gather-clause-named : goal.returns-in_err-gather-clause-named
returns-in_err-gather-clause-named g c = gathered_named c.loop-number.self c.args.group c.loop-number.number c.gather.result c.gather.new.self c.gather.ensures.turned ∙ c.loop-number.invariant.named
