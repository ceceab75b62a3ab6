-- The first is its merge with nothing.
use Rattle.std.proofs.Common.{◌≡◌, IfOk, sym, ap, subst, ◌∙◌}
use Rattle.std.specs.Option.{unwrap_or}
use Rattle.rl_aggregate.specs.Partials.{merge}
use Rattle.rl_world.specs.Kept.{no_partial}
use Rattle.rl_world.proofs.Merging.{merge-into_nothing}
use Rattle.rl_world.proofs.evaluating.merge_first.Goals as goal

pub returns-in-None : goal.returns-in-None
returns-in-None c =
    let own = c.args.own.now in
    subst (λ partial. IfOk c.try_copy.result (λ both. both ≡ partial)) (sym (ap (λ sum. merge (unwrap_or sum no_partial) own) c.in-None.is ∙ merge-into_nothing own)) c.try_copy.ensures
