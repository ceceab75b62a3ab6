-- The entries of the tree are those of the totals.
use Rattle.std.proofs.Common.{sym, ap, ◌∙◌}
use Rattle.std.specs.FinMap as map
use Rattle.rl_labels.specs.laws.TextLaws.{label_set_cmp_total, label_set_cmp-IsAntisymmetric}
use Rattle.rl_plain.specs.laws.TreeMaps.{entries-of_tree}
use Rattle.rl_aggregate.proofs.totals.Totals.iter.Goals as goal

pub returns : goal.returns
returns c =
    c.iter.ensures.rest ∙ sym (entries-of_tree label_set_cmp_total label_set_cmp-IsAntisymmetric c.self.inside.by_labels.entries c.iter.ensures.ordered) ∙ ap (λ m. map.entries m) c.self.view_is
