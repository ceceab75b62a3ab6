-- The tree has an entry for each label set.
use Rattle.std.proofs.Common.{sym, ap, ◌∙◌}
use Rattle.std.specs.FinMap as map
use Rattle.rl_labels.specs.laws.TextLaws.{label_set_cmp_total, label_set_cmp-IsAntisymmetric}
use Rattle.rl_plain.specs.laws.TreeMaps.{len-of_tree}
use Rattle.rl_aggregate.proofs.totals.Totals.len.Goals as goal

pub returns : goal.returns
returns c =
    c.len.ensures.len
    ∙ sym (len-of_tree label_set_cmp_total label_set_cmp-IsAntisymmetric c.self.inside.by_labels.entries c.len.ensures.ordered)
    ∙ ap (λ m. map.len m) c.self.view_is
