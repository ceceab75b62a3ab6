-- A group more.
use Rattle.std.proofs.Common.{◌≡◌, ◌+◌, ◌∷◌, drop, arith}
use Rattle.std.proofs.lemmas.Grind.{common_steps}
use Rattle.rl_rule_tests.proofs.Chains.{goes_next, goes_all}
use Rattle.rl_rule_tests.proofs.playing.play_groups.Goals as goal

pub loop-group-preserved : goal.loop-group-preserved
loop-group-preserved g c =
    let next : drop c.loop-group.group-index c.args.groups.now ≡ c.group-item.result ∷ drop (c.loop-group.group-index + 1) c.args.groups.now = grind (arith, common_steps, c.group-item.is, c.loop-group-test.true) in
    goes_next _ _ _ _ _ _ c.group-item.result _ c.loop-group.invariant next c.in_ok-play_group.ensures

pub returns : goal.returns
returns g c = goes_all _ _ _ _ _ c.loop-group.invariant (grind (arith, common_steps, c.loop-group-test.false))
