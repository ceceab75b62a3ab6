-- The tree has at the label set what is left there.
use Rattle.std.proofs.Common.{cond, sym, ap, ◌∙◌}
use Rattle.std.specs.FinMap.{get}
use Rattle.rl_labels.specs.laws.TextLaws.{label_set_cmp_total, label_set_cmp-IsAntisymmetric}
use Rattle.rl_plain.specs.laws.TreeMaps.{get-of_tree}
use Rattle.rl_aggregate.specs.TotalsMap.{has_volume, taken}
use Rattle.rl_aggregate.specs.laws.Trees.{one_taken}
use Rattle.rl_aggregate.proofs.totals.Totals.take_out.Goals as goal

pub returns-clause-there : goal.returns-clause-there
returns-clause-there c =
    c.take_at.ensures.there
    ∙ ap (λ there. has_volume there c.args.total) (sym (get-of_tree label_set_cmp_total c.self.inside.by_labels.entries c.args.labels.now) ∙ ap (λ totals. get totals c.args.labels.now) c.self.view_is)

pub returns-clause-left : goal.returns-clause-left
returns-clause-left c =
    one_taken label_set_cmp_total label_set_cmp-IsAntisymmetric has_volume c.self.inside.by_labels.entries c.take_at.new.by_labels.entries c.args.labels.now c.args.total c.take_at.result c.take_at.ensures.there c.take_at.ensures.left
    ∙ ap (λ totals. cond (has_volume (get totals c.args.labels.now) c.args.total) (taken totals c.args.labels.now c.args.total) totals) c.self.view_is
