-- Merged totals fit where the merge does, and a merge of the partials of two lists is that of both.
use Rattle.std.proofs.Common.{◌+◌, sym, ap, subst, ◌∙◌}
use Rattle.rl_aggregate.specs.Partials.{merge, VolumeFits}
use Rattle.rl_aggregate.specs.laws.Runs.{partial-append}
use Rattle.rl_aggregate.specs.laws.Totals.{total_at-both_totals}
use Rattle.rl_aggregate.proofs.partial.merge.Goals as goal

pub add_all-requires : goal.add_all-requires
add_all-requires c = λ labels. subst VolumeFits (total_at-both_totals c.args.a.totals c.args.b.now.totals labels) (c.requires.1 labels)

pub returns-clause-of_both : goal.returns-clause-of_both
returns-clause-of_both c = λ first second term t of_first of_second.
    ap (λ totals. record { errors = c.args.a.errors + c.args.b.now.errors; totals = totals }) c.in_ok-add_all.ensures.ok
    ∙ (λ i. merge (of_first i) (of_second i))
    ∙ sym (partial-append first second term t)
