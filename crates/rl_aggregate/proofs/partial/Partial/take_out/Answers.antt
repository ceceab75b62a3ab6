-- Of the partial of a list a run of it can be taken.
use Rattle.std.proofs.Common.{◌≡◌, cond, true, false, refl, sym, ◌∙◌}
use Rattle.std.specs.FinMap.{get}
use Rattle.rl_aggregate.specs.Runs.{has_at_least, without_volume}
use Rattle.rl_aggregate.specs.TotalsMap.{has_volume, taken}
use Rattle.rl_aggregate.specs.laws.Runs.{one_less}
use Rattle.rl_aggregate.specs.declared.partial.Partial.{Partial}
use Rattle.rl_aggregate.proofs.partial.Partial.take_out.Goals as goal

pub returns-clause-one_less : goal.returns-clause-one_less
returns-clause-one_less c =
    let before : Partial = c.args.self.now in
    let volume = c.args.volume in
    let left = taken before.totals c.in-Some.own volume in
    one_less (record { labels = c.args.labels.now; volume = volume }) before _ (
    (λ i. record { errors = before.errors; totals = c.take_out.ensures.left i })
    ∙ elim (has_volume (get before.totals c.in-Some.own) volume) as (λ b. record { errors = before.errors; totals = cond b left before.totals } ≡ cond b (record { errors = before.errors; totals = left }) before) [ true ↦ refl | false ↦ refl ]
    ∙ (λ i. cond (has_at_least (sym c.in-Some.is i) volume before) (without_volume (sym c.in-Some.is i) volume before) before)
    )
