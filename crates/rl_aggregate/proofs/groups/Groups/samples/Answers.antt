-- The entries of the tree are those of the map.
use Rattle.std.proofs.Common.{◌++◌, sym, ap, ◌∙◌, map as map_list}
use Rattle.std.specs.FinMap as map
use Rattle.rl_aggregate.specs.Grouping.{sample_of}
use Rattle.rl_labels.specs.laws.TextLaws.{label_set_cmp_total, label_set_cmp-IsAntisymmetric}
use Rattle.rl_plain.specs.laws.TreeMaps.{entries-of_tree}
use Rattle.rl_aggregate.proofs.groups.Groups.samples.Goals as goal

pub loop-labels-init : goal.loop-labels-init
loop-labels-init c =
    let es = c.self.inside.by_labels.entries in
    ap (λ front. front ++ map_list sample_of c.into_iter-labels-iterator.result) c.in_ok-samples.ensures.items
    ∙ ap (map_list sample_of) (c.into_iter-labels-iterator.ensures.into_iter_gives ∙ c.iter-labels-items.ensures.rest
    ∙ sym (entries-of_tree label_set_cmp_total label_set_cmp-IsAntisymmetric es c.iter-labels-items.ensures.ordered) ∙ ap (λ m. map.entries m) c.self.view_is)
