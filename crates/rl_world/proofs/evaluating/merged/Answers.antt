-- The answer of a shard that was asked goes into the sum, which still fits; any other shard has none.
use Rattle.std.proofs.Common.{◌≡◌, ◌+◌, get_or, sym, ap, subst, ◌∙◌}
use Rattle.std.specs.Option.{unwrap_or}
use Rattle.rl_world.specs.Kept.{no_partial}
use Rattle.rl_world.proofs.Merging.{IsSumBefore, nothing_merged, asked, not_asked, sum_fits}
use Rattle.rl_world.proofs.evaluating.merged.Goals as goal
use Rattle.rl_world.proofs.evaluating.merged.Goals.{in-Some+in_ok-both, in_default}

pub loop-shard_answer-init : goal.loop-shard_answer-init
loop-shard_answer-init c = nothing_merged c.args.term c.args.answers.now

pub merge_first-requires : goal.merge_first-requires
merge_first-requires c =
    let answer = c.in-Some.answer in
    let found = c.index-as_slice-term.result in
    let own = c.get.result.now in
    let own_is : own ≡ get_or answer.shown c.args.term own = subst (λ own. own ≡ get_or answer.shown c.args.term own) (sym c.get.ensures) (c.index-as_slice-term.is ∙ ap (λ shown. get_or shown c.args.term found) c.as_slice.ensures) in
    sum_fits c.args.term c.args.answers.now c.loop-shard_answer.shard_answer-index c.shard_answer-item.result (unwrap_or c.loop-shard_answer.sum no_partial) c.loop-shard_answer-test.true c.shard_answer-item.is c.loop-shard_answer.invariant answer own c.requires.answers c.in-Some.is own_is c.requires.shards

pub loop-shard_answer-preserved : goal.loop-shard_answer-preserved
loop-shard_answer-preserved c =
    let term = c.args.term in
    let answers = c.args.answers.now in
    let i = c.loop-shard_answer.shard_answer-index in
    elim c.match-shard_answer.branch [
      | in-Some+in_ok-both w ↦
          let answer = w.in-Some.answer in
          let found = w.index-as_slice-term.result in
          let own = w.get.result.now in
          let own_is : own ≡ get_or answer.shown term own = subst (λ own. own ≡ get_or answer.shown term own) (sym w.get.ensures) (w.index-as_slice-term.is ∙ ap (λ shown. get_or shown term found) w.as_slice.ensures) in
          subst (IsSumBefore term answers (i + 1)) (sym (ap (λ sum. unwrap_or sum no_partial) w.sum-is ∙ w.in_ok-both.ensures)) (asked term answers i c.shard_answer-item.result (unwrap_or c.loop-shard_answer.sum no_partial) c.loop-shard_answer-test.true c.shard_answer-item.is c.loop-shard_answer.invariant answer own c.requires.answers w.in-Some.is own_is)
      | in_default w ↦
          subst (IsSumBefore term answers (i + 1)) (sym (ap (λ sum. unwrap_or sum no_partial) w.sum-is)) (not_asked term answers i c.shard_answer-item.result (unwrap_or c.loop-shard_answer.sum no_partial) c.loop-shard_answer-test.true c.shard_answer-item.is c.loop-shard_answer.invariant w.in_default.is)
    ]
