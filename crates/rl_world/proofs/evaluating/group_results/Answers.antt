-- There is a partial for each term of the rules, and each is within the limits of one. What a lone shard has is what all merge to.
use Rattle.std.proofs.Common.{◌≡◌, length, flat_map, option_to_list, IfOk, sym, ap, subst, ◌∙◌, arith}
use Rattle.std.specs.List.{AllByRecursion}
use Rattle.rl_aggregate.specs.Limited.{IsLimited}
use Rattle.rl_world.specs.Kept.{results_from}
use Rattle.rl_world.proofs.Merging.{length-merged_terms, merged_terms-limited, merged_terms-lone}
use Rattle.rl_world.proofs.evaluating.group_results.Goals as goal

pub results-requires-2-clause-terms : goal.results-requires-2-clause-terms
results-requires-2-clause-terms c =
    ap (λ partials. length partials) (c.deref.ensures.value ∙ c.in_ok-partials.ensures)
    ∙ length-merged_terms 0 c.args.terms (flat_map option_to_list c.args.answers.now)
    ∙ c.requires.terms

pub results-requires-2-clause-limited : goal.results-requires-2-clause-limited
results-requires-2-clause-limited c =
    subst (AllByRecursion IsLimited) (sym (c.deref.ensures.value ∙ c.in_ok-partials.ensures)) (merged_terms-limited 0 c.args.terms c.args.terms c.args.answers.now c.requires.shards (omega arith) c.requires.answers)

pub returns-in-Some-clause-results : goal.returns-in-Some-clause-results
returns-in-Some-clause-results c =
    let given = c.as_slice.ensures ∙ merged_terms-lone c.args.terms c.args.answers.now c.shard_answer-item.result c.in-Some.answer c.in-len1.len_below c.in-len1.len_at_least c.shard_answer-item.is c.in-Some.is c.requires.answers in
    subst (λ partials. IfOk c.results.result (λ made. made.0.items ≡ results_from c.args.group.now.limit c.args.t c.args.group.now.rules c.args.kept.now partials)) given c.results.ensures.results
