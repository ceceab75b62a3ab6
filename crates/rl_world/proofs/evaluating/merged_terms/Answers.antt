-- One term more is merged.
use Rattle.std.proofs.Common.{◌≡◌, ◌++◌, ◌∷◌, [], ◌+◌, ◌-◌, flat_map, option_to_list, ap, ◌∙◌}
use Rattle.rl_world.specs.Kept.{merged_from, merged_terms, no_partial}
use Rattle.rl_world.proofs.Merging.{merged_terms-more}
use Rattle.rl_world.proofs.evaluating.merged_terms.Goals as goal

pub loop-term-preserved : goal.loop-term-preserved
loop-term-preserved c =
    let term = c.loop-term.term in
    let terms = c.args.terms in
    let answers = flat_map option_to_list c.args.answers.now in
    let done = c.loop-term.partials.items in
    let pushed : c.push.new.self.items ≡ done ++ merged_from no_partial term answers ∷ [] = c.in_ok-push.ensures.items ∙ ap (λ own. done ++ own ∷ []) (c.in_ok-shared.ensures ∙ c.in_ok-partial.ensures) in
    ap (λ items. items ++ merged_terms (term + 1) (terms - (term + 1)) answers) pushed
    ∙ merged_terms-more done term terms answers c.loop-term-test.true
    ∙ c.loop-term.invariant
