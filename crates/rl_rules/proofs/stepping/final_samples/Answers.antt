-- The named samples are sorted where they are.
use Rattle.std.proofs.Common.{◌≡◌, List, length, map, subst, arith}
use Rattle.std.specs.List.Sorted.{IsPermutation}
use Rattle.std.proofs.lemmas.Grind.{common_steps}
use Rattle.rl_aggregate.specs.declared.outcome.Sample.{Sample}
use Rattle.rl_rules.specs.Recording.{named}
use Rattle.rl_rules.proofs.Recorded.{take_whole}
use Rattle.rl_rules.proofs.stepping.final_samples.Goals as goal

pub returns-clause-moved : goal.returns-clause-moved
returns-clause-moved c =
    let sorted = c.sort_samples.new.samples in
    let before : c.deref_mut-2.result.now ≡ map (named c.args.rule.now) c.args.samples.items = grind (arith, common_steps) in
    let full : c.args.samples.len ≡ length sorted = grind (arith, common_steps) in
    rw take_whole (subst (λ (ss : List Sample). IsPermutation ss sorted) before c.sort_samples.ensures.moved)

pub returns-clause-in_order : goal.returns-clause-in_order
returns-clause-in_order c =
    let full : c.args.samples.len ≡ length c.sort_samples.new.samples = grind (arith, common_steps) in
    rw take_whole c.sort_samples.ensures.in_order
